-- No line is the beginning of another, and none has two spellings.
use Rattle.std.proofs.Common.{◌≡◌, ◌≤◌, ◌<◌, ◌+◌, ◌-◌, drop, ℕ, zero, suc, ℤ, pos, List, [], ◌∷◌, ◌++◌, length, length-append, refl, sym, ap, ◌∙◌, arith, append_assoc}
use Rattle.pawk_words.specs.declared.word.Gap.{Gap}
use Rattle.pawk_words.specs.declared.word.Gap.TheVariants.{Space, Newline}
use Rattle.pawk_words.specs.Words.{Word, name, number, text, gap_byte, IsName, IsWord, size_limit, written, written_all, written_word}
use Rattle.pawk_words.proofs.WordLaws.{written_same}
use Rattle.pawk_value.specs.Value.{Uninit, Num, Text, Maybe}
use Rattle.pawk_lines.specs.declared.name.Name.{Name}
use Rattle.pawk_lines.specs.declared.name.Name.TheVariants as a
use Rattle.pawk_lines.specs.declared.name.NumberLine.TheVariants as n
use Rattle.pawk_lines.specs.declared.name.TextLine.TheVariants as t
use Rattle.pawk_lines.specs.declared.name.MarkName.TheVariants as m
use Rattle.pawk_lines.specs.Lines.{Line, format, program, budget, assign, shard, before, file, part, output, scalar, array, element, last, records, end, Mark, added, sum, put, created, IsLine, IsMark, IsValue, IsCount, count, line_words, line_bytes, mark_words, BeginsLine}
use Rattle.pawk_lines.specs.Reading.{IsInFront, IsWrong, Lines}
use Rattle.std.proofs.lemmas.List.{append-nil, drop_at}
use Rattle.pawk_lines.specs.Names.{number_line_of, text_line_of}
use Rattle.pawk_lines.proofs.Turns.{one_written}
use Rattle.pawk_lines.proofs.Forms.{value_within, word_within}
use Rattle.pawk_lines.proofs.NameLemmas.{first_word, letters, table_name, the_names, with_letters}

-- ---- words that end with a newline, and only there

abbrev IsClosed : List (Word × Gap) → Type 0
IsClosed [] = ⊥
IsClosed (x ∷ []) = IsWord x.0 × (x.1 ≡ Newline)
IsClosed (x ∷ y ∷ ys) = IsWord x.0 × (x.1 ≡ Space) × IsClosed (y ∷ ys)

closed_cons : (w : Word) (ws : List (Word × Gap)) → IsWord w → IsClosed ws → IsClosed ((w, Space) ∷ ws)
closed_cons w [] h k = absurd k
closed_cons w (y ∷ ys) h k = (h, refl, k)

closed_last : (w : Word) → IsWord w → IsClosed ((w, Newline) ∷ [])
closed_last w h = (h, refl)

apart : (g h : Gap) → g ≡ Newline → h ≡ Space → g ≡ h → ⊥
apart g h e f is = let bad : Newline ≡ Space = sym e ∙ is ∙ f in cc

record SameLists (xs ys : List (Word × Gap)) (r q : List ℕ) : Type 0 where
  lists : xs ≡ ys
  left : r ≡ q

closed_same : (xs ys : List (Word × Gap)) (r q : List ℕ) → IsClosed xs → IsClosed ys → written_all xs ++ r ≡ written_all ys ++ q → SameLists xs ys r q
closed_same [] ys r q h k e = absurd h
closed_same (x ∷ xs) [] r q h k e = absurd k
closed_same (x ∷ []) (y ∷ []) r q h k e =
    let same = written_same x.0 y.0 x.1 y.1 r q h.0 k.0 (sym (one_written x.0 x.1 r) ∙ e ∙ one_written y.0 y.1 q) in
    let pairs : ◌≡◌ {A = Word × Gap} (x.0, x.1) (y.0, y.1) = rw (same.word, same.gap) refl in
    let one : x ≡ y = pairs in
    record { lists = ap (λ z. z ∷ []) one; left = same.left }
closed_same (x ∷ []) (y ∷ v ∷ vs) r q h k e =
    let same = written_same x.0 y.0 x.1 y.1 r (written_all (v ∷ vs) ++ q) h.0 k.0 (sym (one_written x.0 x.1 r) ∙ e ∙ append_assoc (written y.0 y.1) (written_all (v ∷ vs)) q) in
    absurd (apart x.1 y.1 h.1 k.1 same.gap)
closed_same (x ∷ w ∷ ws) (y ∷ []) r q h k e =
    let same = written_same x.0 y.0 x.1 y.1 (written_all (w ∷ ws) ++ r) q h.0 k.0 (sym (append_assoc (written x.0 x.1) (written_all (w ∷ ws)) r) ∙ e ∙ one_written y.0 y.1 q) in
    absurd (apart y.1 x.1 k.1 h.1 (sym same.gap))
closed_same (x ∷ w ∷ ws) (y ∷ v ∷ vs) r q h k e =
    let same = written_same x.0 y.0 x.1 y.1 (written_all (w ∷ ws) ++ r) (written_all (v ∷ vs) ++ q) h.0 k.0
    (sym (append_assoc (written x.0 x.1) (written_all (w ∷ ws)) r) ∙ e ∙ append_assoc (written y.0 y.1) (written_all (v ∷ vs)) q) in
    let again = closed_same (w ∷ ws) (v ∷ vs) r q h.2 k.2 same.left in
    let pairs : ◌≡◌ {A = Word × Gap} (x.0, x.1) (y.0, y.1) = rw (same.word, same.gap) refl in
    let one : x ≡ y = pairs in
    let rest : w ∷ ws ≡ v ∷ vs = again.lists in
    record { lists = rw (one, rest) refl; left = again.left }

-- ---- the words of a line are such

a_name : (x : Name) → IsName (letters x)
a_name x = (first_word x).proper

value_word : (z : ℤ) → IsValue (Num z) → IsWord (number z)
value_word z h = word_within 9223372036854775808 9223372036854775807 z (omega arith) (omega arith) (value_within z h)

closed_mark : (k : Mark) → IsMark k → IsClosed (mark_words k)
closed_mark (added x) h = (a_name (a.Mark m.Added), refl, (h, refl))
closed_mark (sum x y z) h = (a_name (a.Mark m.Sum), refl, (h.0, refl, (h.1, refl, (h.2, refl))))
closed_mark (put Uninit) h = (a_name (a.Mark m.Unset), refl)
closed_mark (put (Num z)) h = (a_name (a.Mark m.Number), refl, (value_word z h, refl))
closed_mark (put (Text s)) h = (a_name (a.Mark m.Text), refl, (h, refl))
closed_mark (put (Maybe s)) h = (a_name (a.Mark m.Maybe), refl, (h, refl))
closed_mark created h = (a_name (a.Mark m.Created), refl)

small : (k : ℕ) → IsCount k → k ≤ size_limit
small k h = omega arith

closed_line : (l : Line) → IsLine l → IsClosed (line_words l)
closed_line (format k) h = (a_name (a.Number n.Format), refl, (table_name, refl, (small k h, refl)))
closed_line (program s) h = (a_name (a.Text t.Program), refl, (h, refl))
closed_line (budget k) h = (a_name (a.Number n.Budget), refl, (small k h, refl))
closed_line (assign v s) h = (a_name a.Assign, refl, (h.0, refl, (h.1, refl)))
closed_line (shard k j i) h = (a_name a.Shard, refl, (small k h.0, refl, (small j h.1, refl, (small i h.2, refl))))
closed_line (before k) h = (a_name (a.Number n.Before), refl, (small k h, refl))
closed_line (file s) h = (a_name (a.Text t.File), refl, (h, refl))
closed_line (part k) h = (a_name (a.Number n.Part), refl, (small k h, refl))
closed_line (output s) h = (a_name (a.Text t.Output), refl, (h, refl))
closed_line (scalar k mark) h = (a_name a.Scalar, refl, closed_cons (count k) (mark_words mark) (small k h.0) (closed_mark mark h.1))
closed_line (array k) h = (a_name (a.Number n.Array), refl, (small k h, refl))
closed_line (element s mark) h = (a_name a.Element, refl, closed_cons (text s) (mark_words mark) h.0 (closed_mark mark h.1))
closed_line (last k s) h = (a_name a.Last, refl, (small k h.0, refl, (h.1, refl)))
closed_line (records k) h = (a_name (a.Number n.Records), refl, (small k h, refl))
closed_line (end s) h = (a_name (a.Text t.End), refl, (h, refl))

-- ---- a line from its words

abbrev size : Word → ℕ
size (number (pos k)) = k
size _ = 0

abbrev whole : Word → ℤ
whole (number z) = z
whole _ = pos 0

abbrev bytes_in : Word → List ℕ
bytes_in (text s) = s
bytes_in _ = []

abbrev word_at : ℕ → List (Word × Gap) → Word
word_at k [] = text []
word_at zero (x ∷ xs) = x.0
word_at (suc k) (x ∷ xs) = word_at k xs

abbrev rest_of : List (Word × Gap) → List (Word × Gap)
rest_of [] = []
rest_of (x ∷ xs) = xs

abbrev letters_in : List (Word × Gap) → List ℕ
letters_in [] = []
letters_in (x ∷ xs) = elim (x.0) [ name w ↦ w | number z ↦ [] | text s ↦ [] ]

abbrev mark_from : Name → List (Word × Gap) → Mark
mark_from (a.Mark m.Added) ws = added (whole (word_at 0 ws))
mark_from (a.Mark m.Sum) ws = sum (whole (word_at 0 ws)) (whole (word_at 1 ws)) (whole (word_at 2 ws))
mark_from (a.Mark m.Unset) ws = put Uninit
mark_from (a.Mark m.Number) ws = put (Num (whole (word_at 0 ws)))
mark_from (a.Mark m.Text) ws = put (Text (bytes_in (word_at 0 ws)))
mark_from (a.Mark m.Maybe) ws = put (Maybe (bytes_in (word_at 0 ws)))
mark_from _ ws = created

abbrev mark_in : List (Word × Gap) → Mark
mark_in ws = mark_from (with_letters the_names (letters_in ws)) (rest_of ws)

mark_again : (k : Mark) → mark_in (mark_words k) ≡ k
mark_again (added x) = refl
mark_again (sum x y z) = refl
mark_again (put Uninit) = refl
mark_again (put (Num z)) = refl
mark_again (put (Text s)) = refl
mark_again (put (Maybe s)) = refl
mark_again created = refl

abbrev line_from : Name → List (Word × Gap) → Line
line_from (a.Number n.Format) ws = format (size (word_at 1 ws))
line_from (a.Number x) ws = number_line_of x (size (word_at 0 ws))
line_from (a.Text x) ws = text_line_of x (bytes_in (word_at 0 ws))
line_from a.Assign ws = assign (bytes_in (word_at 0 ws)) (bytes_in (word_at 1 ws))
line_from a.Shard ws = shard (size (word_at 0 ws)) (size (word_at 1 ws)) (size (word_at 2 ws))
line_from a.Scalar ws = scalar (size (word_at 0 ws)) (mark_in (rest_of ws))
line_from a.Element ws = element (bytes_in (word_at 0 ws)) (mark_in (rest_of ws))
line_from a.Last ws = last (size (word_at 0 ws)) (bytes_in (word_at 1 ws))
line_from (a.Mark x) ws = format 0

abbrev line_in : List (Word × Gap) → Line
line_in ws = line_from (with_letters the_names (letters_in ws)) (rest_of ws)

line_again : (l : Line) → line_in (line_words l) ≡ l
line_again (format k) = refl
line_again (program s) = refl
line_again (budget k) = refl
line_again (assign v s) = refl
line_again (shard k j i) = refl
line_again (before k) = refl
line_again (file s) = refl
line_again (part k) = refl
line_again (output s) = refl
line_again (scalar k mark) = ap (scalar k) (mark_again mark)
line_again (array k) = refl
line_again (element s mark) = ap (element s) (mark_again mark)
line_again (last k s) = refl
line_again (records k) = refl
line_again (end s) = refl

-- ---- the laws

pub record IsSameLine (l k : Line) (rest others : List ℕ) : Type 0 where
  pub line : l ≡ k
  pub left : rest ≡ others

pub line_same : (s : List ℕ) (l k : Line) (rest others : List ℕ) → BeginsLine s l rest → BeginsLine s k others → IsSameLine l k rest others
line_same s l k rest others h j =
    let same = closed_same (line_words l) (line_words k) rest others (closed_line l h.line) (closed_line k j.line) (sym h.front ∙ j.front) in
    record { line = sym (line_again l) ∙ ap line_in same.lists ∙ line_again k; left = same.left }

some_bytes : (ws : List (Word × Gap)) → IsClosed ws → 0 < length (written_all ws)
some_bytes [] h = absurd h
some_bytes (x ∷ xs) h = omega (arith, length-append (written x.0 x.1) (written_all xs), length-append (written_word x.0) (gap_byte x.1 ∷ []))

pub line_drop : (s rest : List ℕ) (l : Line) → BeginsLine s l rest → drop (length s - length rest) s ≡ rest
line_drop s rest l h =
    let long : length s ≡ length (line_bytes l) + length rest = ap length h.front ∙ length-append (line_bytes l) rest in
    ap (drop (length s - length rest)) h.front ∙ drop_at (line_bytes l) rest (length s - length rest) (omega (arith, long))

pub line_in_front : (s rest : List ℕ) (l : Line) → BeginsLine s l rest → IsInFront s l (length s - length rest)
line_in_front s rest l h =
    let long : length s ≡ length (line_bytes l) + length rest = ap length h.front ∙ length-append (line_bytes l) rest in
    let some : 0 < length (line_bytes l) = some_bytes (line_words l) (closed_line l h.line) in
    record { some = omega arith; within = omega arith; begins = rw (line_drop s rest l h) h }

pub lines_none : (s : List ℕ) (l : Line) (rest : List ℕ) → IsWrong Lines s → BeginsLine s l rest → ⊥
lines_none s l rest h b = h [] (line_words l) rest (l, b.line, refl) (append-nil s ∙ b.front)
