-- The names are known by their bytes.
use Rattle.std.proofs.Common.{◌≡◌, ◌≢◌, ℕ, ◌<◌, ◌≤◌, inl, inr, Bool, true, false, ◌&&◌, List, [], ◌∷◌, ◌++◌, length, refl, sym, ap, ◌∙◌, arith, append_assoc, codes}
use Rattle.std.specs.Char.{is_ascii_lowercase}
use Rattle.std.specs.List.{Contains}
use Rattle.std.specs.Str.{bytes_eq}
use Rattle.std.proofs.lemmas.List.{append-nil, append_cancel_left}
use Rattle.pawk_words.specs.declared.word.Gap.{Gap}
use Rattle.pawk_words.specs.declared.word.Gap.TheVariants.{Space, Newline}
use Rattle.pawk_words.specs.Words.{Word, name, IsName, AllAre, written, written_all}
use Rattle.pawk_words.proofs.WordLaws.{written_same}
use Rattle.pawk_lines.specs.declared.failure.Failure.TheVariants.{Short, Damage}
use Rattle.pawk_lines.specs.declared.name.Name.{Name}
use Rattle.pawk_lines.specs.declared.name.Name.TheVariants.{Number, Text, Assign, Shard, Scalar, Element, Last, Mark}
use Rattle.pawk_lines.specs.declared.name.NumberLine.{NumberLine}
use Rattle.pawk_lines.specs.declared.name.NumberLine.TheVariants as n
use Rattle.pawk_lines.specs.declared.name.TextLine.{TextLine}
use Rattle.pawk_lines.specs.declared.name.TextLine.TheVariants as t
use Rattle.pawk_lines.specs.declared.name.MarkName.{MarkName}
use Rattle.pawk_lines.specs.declared.name.MarkName.TheVariants as m
use Rattle.pawk_lines.specs.Names.{name_words, spelling}
use Rattle.pawk_lines.specs.Reading.{Fails, FailsAfter, OneOf}
use Rattle.pawk_lines.proofs.Turns.{overlap, IsCode}

-- ---- the first word of a name

abbrev number_letters : NumberLine → List ℕ
number_letters n.Format = codes "pawk"
number_letters n.Budget = codes "budget"
number_letters n.Before = codes "before"
number_letters n.Part = codes "part"
number_letters n.Array = codes "array"
number_letters n.Records = codes "records"

abbrev text_letters : TextLine → List ℕ
text_letters t.Program = codes "program"
text_letters t.File = codes "file"
text_letters t.Output = codes "output"
text_letters t.End = codes "end"

abbrev mark_letters : MarkName → List ℕ
mark_letters m.Added = codes "add"
mark_letters m.Sum = codes "sum"
mark_letters m.Unset = codes "unset"
mark_letters m.Number = codes "number"
mark_letters m.Text = codes "text"
mark_letters m.Maybe = codes "maybe"
mark_letters m.Created = codes "created"

abbrev pub letters : Name → List ℕ
letters (Number x) = number_letters x
letters (Text x) = text_letters x
letters Assign = codes "assign"
letters Shard = codes "shard"
letters Scalar = codes "scalar"
letters Element = codes "key"
letters Last = codes "last"
letters (Mark x) = mark_letters x

all_test : List ℕ → Bool
all_test [] = true
all_test (b ∷ bs) = is_ascii_lowercase b && all_test bs

abbrev pub the_names : List Name
the_names = Number n.Format ∷ Number n.Budget ∷ Number n.Before ∷ Number n.Part ∷ Number n.Array ∷ Number n.Records ∷ Text t.Program ∷ Text t.File ∷ Text t.Output ∷ Text t.End ∷ Assign ∷ Shard ∷ Scalar ∷ Element ∷ Last ∷ Mark m.Added ∷ Mark m.Sum ∷ Mark m.Unset ∷ Mark m.Number ∷ Mark m.Text ∷ Mark m.Maybe ∷ Mark m.Created ∷ []

-- the name whose first word has these letters
abbrev pub with_letters : List Name → List ℕ → Name
with_letters [] w = Last
with_letters (x ∷ xs) w = elim (bytes_eq (letters x) w) [ true ↦ x | false ↦ with_letters xs w ]

known : (x : Name) → with_letters the_names (letters x) ≡ x
known (Number n.Format) = refl
known (Number n.Budget) = refl
known (Number n.Before) = refl
known (Number n.Part) = refl
known (Number n.Array) = refl
known (Number n.Records) = refl
known (Text t.Program) = refl
known (Text t.File) = refl
known (Text t.Output) = refl
known (Text t.End) = refl
known Assign = refl
known Shard = refl
known Scalar = refl
known Element = refl
known Last = refl
known (Mark m.Added) = refl
known (Mark m.Sum) = refl
known (Mark m.Unset) = refl
known (Mark m.Number) = refl
known (Mark m.Text) = refl
known (Mark m.Maybe) = refl
known (Mark m.Created) = refl

same_name : (x y : Name) → letters x ≡ letters y → x ≡ y
same_name x y e = sym (known x) ∙ ap (with_letters the_names) e ∙ known y

pub record FirstWord (x : Name) : Type 0 where
  pub gap : Gap
  pub rest : List (Word × Gap)
  pub proper : IsName (letters x)
  pub is : name_words x ≡ (name (letters x), gap) ∷ rest

-- lower-case letters, by their test
all_passed : (bs : List ℕ) → 0 < length bs → length bs ≤ 16 → AllAre is_ascii_lowercase bs → IsName bs
all_passed bs some short h = record { letters = h; some = some; short = short }

pub first_word : (x : Name) → FirstWord x
first_word (Number n.Format) = record { gap = Space; rest = (name (codes "table"), Space) ∷ []; proper = all_passed (codes "pawk") (omega arith) (omega arith) (search arith); is = refl }
first_word (Number n.Budget) = record { gap = Space; rest = []; proper = all_passed (codes "budget") (omega arith) (omega arith) (search arith); is = refl }
first_word (Number n.Before) = record { gap = Space; rest = []; proper = all_passed (codes "before") (omega arith) (omega arith) (search arith); is = refl }
first_word (Number n.Part) = record { gap = Space; rest = []; proper = all_passed (codes "part") (omega arith) (omega arith) (search arith); is = refl }
first_word (Number n.Array) = record { gap = Space; rest = []; proper = all_passed (codes "array") (omega arith) (omega arith) (search arith); is = refl }
first_word (Number n.Records) = record { gap = Space; rest = []; proper = all_passed (codes "records") (omega arith) (omega arith) (search arith); is = refl }
first_word (Text t.Program) = record { gap = Space; rest = []; proper = all_passed (codes "program") (omega arith) (omega arith) (search arith); is = refl }
first_word (Text t.File) = record { gap = Space; rest = []; proper = all_passed (codes "file") (omega arith) (omega arith) (search arith); is = refl }
first_word (Text t.Output) = record { gap = Space; rest = []; proper = all_passed (codes "output") (omega arith) (omega arith) (search arith); is = refl }
first_word (Text t.End) = record { gap = Space; rest = []; proper = all_passed (codes "end") (omega arith) (omega arith) (search arith); is = refl }
first_word Assign = record { gap = Space; rest = []; proper = all_passed (codes "assign") (omega arith) (omega arith) (search arith); is = refl }
first_word Shard = record { gap = Space; rest = []; proper = all_passed (codes "shard") (omega arith) (omega arith) (search arith); is = refl }
first_word Scalar = record { gap = Space; rest = []; proper = all_passed (codes "scalar") (omega arith) (omega arith) (search arith); is = refl }
first_word Element = record { gap = Space; rest = []; proper = all_passed (codes "key") (omega arith) (omega arith) (search arith); is = refl }
first_word Last = record { gap = Space; rest = []; proper = all_passed (codes "last") (omega arith) (omega arith) (search arith); is = refl }
first_word (Mark m.Added) = record { gap = Space; rest = []; proper = all_passed (codes "add") (omega arith) (omega arith) (search arith); is = refl }
first_word (Mark m.Sum) = record { gap = Space; rest = []; proper = all_passed (codes "sum") (omega arith) (omega arith) (search arith); is = refl }
first_word (Mark m.Unset) = record { gap = Newline; rest = []; proper = all_passed (codes "unset") (omega arith) (omega arith) (search arith); is = refl }
first_word (Mark m.Number) = record { gap = Space; rest = []; proper = all_passed (codes "number") (omega arith) (omega arith) (search arith); is = refl }
first_word (Mark m.Text) = record { gap = Space; rest = []; proper = all_passed (codes "text") (omega arith) (omega arith) (search arith); is = refl }
first_word (Mark m.Maybe) = record { gap = Space; rest = []; proper = all_passed (codes "maybe") (omega arith) (omega arith) (search arith); is = refl }
first_word (Mark m.Created) = record { gap = Newline; rest = []; proper = all_passed (codes "created") (omega arith) (omega arith) (search arith); is = refl }

pub table_name : IsName (codes "table")
table_name = all_passed (codes "table") (omega arith) (omega arith) (search arith)

-- ---- names apart

-- two lists of words that begin with names
pub name_unique : (x y : Name) (ws vs : List (Word × Gap)) → name_words x ++ ws ≡ name_words y ++ vs → (x ≡ y) × (ws ≡ vs)
name_unique x y ws vs e =
    let a = first_word x in
    let b = first_word y in
    let heads : (name (letters x), a.gap) ∷ (a.rest ++ ws) ≡ (name (letters y), b.gap) ∷ (b.rest ++ vs) = sym (ap (λ l. l ++ ws) a.is) ∙ e ∙ ap (λ l. l ++ vs) b.is in
    let tops : ◌≡◌ {A = Word × Gap} (name (letters x), a.gap) (name (letters y), b.gap) = cc in
    let words : name (letters x) ≡ name (letters y) = ap (λ p. p.0) tops in
    let same_letters : letters x ≡ letters y = cc in
    let same = same_name x y same_letters in
    (same, append_cancel_left (name_words x) ws vs (e ∙ ap (λ z. name_words z ++ vs) (sym same)))

spelled : (x : Name) (r : List ℕ) → spelling x ++ r ≡ written (name (letters x)) (first_word x).gap ++ (written_all (first_word x).rest ++ r)
spelled x r = ap (λ l. written_all l ++ r) (first_word x).is ∙ append_assoc (written (name (letters x)) (first_word x).gap) (written_all (first_word x).rest) r

-- two texts that begin with names
pub spelling_unique : (x y : Name) (r q : List ℕ) → spelling x ++ r ≡ spelling y ++ q → (x ≡ y) × (r ≡ q)
spelling_unique x y r q e =
    let a = first_word x in
    let b = first_word y in
    let same = written_same (name (letters x)) (name (letters y)) a.gap b.gap (written_all a.rest ++ r) (written_all b.rest ++ q) a.proper b.proper (sym (spelled x r) ∙ e ∙ spelled y q) in
    let words : name (letters x) ≡ name (letters y) = same.word in
    let same_letters : letters x ≡ letters y = cc in
    let one = same_name x y same_letters in
    (one, append_cancel_left (spelling x) r q (e ∙ ap (λ z. spelling z ++ q) (sym one)))

pub names_code : (names : List Name) → IsCode (OneOf names)
names_code names xs ys r q h k e =
    let same = spelling_unique h.0 k.0 r q (ap (λ l. written_all l ++ r) (sym h.2) ∙ e ∙ ap (λ l. written_all l ++ q) k.2) in
    (h.2 ∙ ap name_words same.0 ∙ sym k.2, same.1)

-- ---- the first bytes

pub fails_after_other : (first s : List ℕ) → ((rest : List ℕ) → s ≢ first ++ rest) → ((more : List ℕ) → first ≢ s ++ more) → FailsAfter first s Damage
fails_after_other first s none within more rest e = elim (overlap s more first rest e) [
  | inl w ↦ none w.0 w.1
  | inr w ↦ within w.0 w.1
]

-- a name that the bytes end within: no other name is in front
pub name_short : (names : List Name) (x : Name) (s : List ℕ) → Contains names x → FailsAfter (spelling x) s Short → Fails (OneOf names) s Short
name_short names x s has k = record {
  none = λ ws rest h e.
      let whole : spelling h.0 ++ (rest ++ k.1) ≡ spelling x ++ [] = sym (append_assoc (spelling h.0) rest k.1) ∙ ap (λ l. (written_all l ++ rest) ++ k.1) (sym h.2) ∙ ap (λ l. l ++ k.1) (sym e) ∙ sym k.2 ∙ sym (append-nil (spelling x)) in
      let same = spelling_unique h.0 x (rest ++ k.1) [] whole in
      k.0 rest (e ∙ ap (λ l. written_all l ++ rest) (h.2 ∙ ap name_words same.0));
  words = name_words x;
  more = k.1;
  wanted = (x, has, refl);
  whole = sym k.2;
}

pub name_damage : (names : List Name) (s : List ℕ) → ((x : Name) → Contains names x → FailsAfter (spelling x) s Damage) → Fails (OneOf names) s Damage
name_damage names s k more ws rest h e = k h.0 h.1 more rest (e ∙ ap (λ l. written_all l ++ rest) h.2)
