-- Lines that bytes begin with: no two lists of mark lines with a line after them that is none.
use Rattle.std.proofs.Common.{◌≡◌, ◌<◌, ◌+◌, ◌-◌, ℕ, true, false, List, [], ◌∷◌, ◌++◌, length, take, drop, Option, Some, None, refl, sym, ◌∙◌, ap, subst, arith, length-append, append_assoc}
use Rattle.std.specs.List.{All, AllPass}
use Rattle.std.specs.Option.{option_and_then}
use Rattle.std.proofs.lemmas.List.{append-nil, take_at, drop_at, take-append-drop, length-drop}
use Rattle.std.proofs.lemmas.List.Concat.{flat_map-append}
use Rattle.std.proofs.lemmas.List.Elements.{All-head, All-tail}
use Rattle.pawk_frozen.specs.Marks.{Table}
use Rattle.pawk_lines.specs.Lines.{Line, IsLine, line_bytes, BeginsLine}
use Rattle.pawk_lines.proofs.LineLaws.{line_same, line_in_front}
use Rattle.pawk_parts.specs.Parts.{Noted, all_noted, nothing_noted, table_in, all_bytes, is_mark_line, SayTable, BeginsOtherLine, IsTableInFront}
use Rattle.pawk_parts.specs.Writing.{Say}
use Rattle.pawk_parts.specs.Reading.{SaysMark, SayNothing, SayUpTo}
use Rattle.pawk_parts.proofs.LineLemmas.{all_noted-append, say_none, say_one, say-append}

-- ---- mark lines, and others

abbrev AreMarkLines : List Line → Type 0
AreMarkLines [] = Unit {0}
AreMarkLines (l ∷ ls) = IsLine l × (is_mark_line l ≡ true) × AreMarkLines ls

are_mark_lines : (ls : List Line) → All IsLine ls → AllPass is_mark_line ls → AreMarkLines ls
are_mark_lines [] h g = tt
are_mark_lines (l ∷ ls) h g = (
  All-head IsLine l ls h,
  All-head (λ k. is_mark_line k ≡ true) l ls g,
  are_mark_lines ls (All-tail IsLine l ls h) (All-tail (λ k. is_mark_line k ≡ true) l ls g),
)

apart : (l k : Line) → is_mark_line l ≡ true → is_mark_line k ≡ false → l ≡ k → ⊥
apart l k h g e = let bad : true ≡ false = sym h ∙ ap is_mark_line e ∙ g in cc

-- a mark line does not begin bytes that another line begins
not_both : (bytes rest : List ℕ) (l : Line) → is_mark_line l ≡ true → BeginsLine bytes l rest → BeginsOtherLine bytes → ⊥
not_both bytes rest l mark h ends = apart l ends.line mark ends.other (line_same bytes l ends.line rest ends.rest h ends.begins).line

first_line : (l : Line) (ls : List Line) (bytes left : List ℕ) → IsLine l → bytes ≡ all_bytes (l ∷ ls) ++ left → BeginsLine bytes l (all_bytes ls ++ left)
first_line l ls bytes left h e = record { line = h; front = e ∙ append_assoc (line_bytes l) (all_bytes ls) left }

-- the second lines are the first ones and some more
record GoOn (ls ks : List Line) (rest left : List ℕ) : Type 0 where
  more : List Line
  is : ks ≡ ls ++ more
  bytes : rest ≡ all_bytes more ++ left
  are : AreMarkLines more

go_on : (ls ks : List Line) (rest left : List ℕ) → AreMarkLines ls → AreMarkLines ks → BeginsOtherLine left → all_bytes ls ++ rest ≡ all_bytes ks ++ left → GoOn ls ks rest left
go_on [] ks rest left h g ends e = record { more = ks; is = refl; bytes = e; are = g }
go_on (l ∷ ls) [] rest left h g ends e = absurd (not_both left (all_bytes ls ++ rest) l h.1 (first_line l ls left rest h.0 (sym e)) ends)
go_on (l ∷ ls) (k ∷ ks) rest left h g ends e =
    let whole : List ℕ = all_bytes (k ∷ ks) ++ left in
    let same = line_same whole l k (all_bytes ls ++ rest) (all_bytes ks ++ left) (first_line l ls whole rest h.0 (sym e)) (first_line k ks whole left g.0 refl) in
    let next = go_on ls ks rest left h.2 g.2 ends same.left in
    record {
      more = next.more;
      is = ap (λ x. x ∷ ks) (sym same.line) ∙ ap (λ xs. l ∷ xs) next.is;
      bytes = next.bytes;
      are = next.are;
    }

no_more : (more : List Line) (rest left : List ℕ) → AreMarkLines more → rest ≡ all_bytes more ++ left → BeginsOtherLine rest → more ≡ []
no_more [] rest left h e ends = refl
no_more (l ∷ more) rest left h e ends = absurd (not_both rest (all_bytes more ++ left) l h.1 (first_line l more rest left h.0 e) ends)

-- ---- how far was read

pub record Reached (bytes : List ℕ) (before : Noted) (rest : List ℕ) (after : Noted) : Type 0 where
  pub lines : List Line
  pub say : Say lines before after
  pub front : bytes ≡ all_bytes lines ++ rest

pub reached_none : (bytes : List ℕ) (n : Noted) → Reached bytes n bytes n
reached_none bytes n = record { lines = []; say = say_none n; front = refl }

pub reached_more : (bytes rest : List ℕ) (n m k : Noted) (count : ℕ) → Reached bytes n rest m → SaysMark rest m k count → Reached bytes n (drop count rest) k
reached_more bytes rest n m k count h g =
    let l = g.line in
    let left : List ℕ = drop count rest in
    let one : all_bytes (h.lines ++ l ∷ []) ≡ all_bytes h.lines ++ line_bytes l =
    flat_map-append line_bytes h.lines (l ∷ []) ∙ ap (λ x. all_bytes h.lines ++ x) (append-nil (line_bytes l)) in
    record {
      lines = h.lines ++ l ∷ [];
      say = say-append h.lines (l ∷ []) n m k h.say (say_one l m k g.front.begins.line g.mark g.said);
      front =
          h.front
          ∙ ap (λ x. all_bytes h.lines ++ x) g.front.begins.front
          ∙ sym (append_assoc (all_bytes h.lines) (line_bytes l) left)
          ∙ ap (λ x. x ++ left) (sym one);
    }

pub reached_end : (bytes rest : List ℕ) (n m : Noted) → Reached bytes n rest m → BeginsOtherLine rest → SayUpTo bytes n m (length bytes - length rest)
reached_end bytes rest n m h ends =
    let said : List ℕ = all_bytes h.lines in
    let long : length bytes ≡ length said + length rest = ap length h.front ∙ length-append said rest in
    let count : ℕ = length bytes - length rest in
    let same : length said ≡ count = omega (arith, long) in
    let left : rest ≡ drop count bytes = sym (ap (drop count) h.front ∙ drop_at said rest count same) in
    record {
      lines = h.lines;
      say = h.say;
      front = ap (take count) h.front ∙ take_at said rest count same;
      ends = subst BeginsOtherLine left ends;
    }

goes_on_from : (bytes rest : List ℕ) (n m k : Noted) (count : ℕ) (h : Reached bytes n rest m) (g : SayUpTo bytes n k count) → GoOn h.lines g.lines rest (drop count bytes)
goes_on_from bytes rest n m k count h g =
    go_on h.lines g.lines rest (drop count bytes) (are_mark_lines h.lines h.say.lines h.say.mark_lines) (are_mark_lines g.lines g.say.lines g.say.mark_lines) g.ends
    (sym h.front ∙ sym (take-append-drop count bytes) ∙ ap (λ x. x ++ drop count bytes) g.front)

-- what more lines say
says_more : (ls ks more : List Line) (n m k : Noted) → all_noted ls n ≡ Some m → all_noted ks n ≡ Some k → ks ≡ ls ++ more → all_noted more m ≡ Some k
says_more ls ks more n m k h g e =
    sym (ap (λ x. all_noted x n) e ∙ all_noted-append ls more n ∙ ap (option_and_then (all_noted more)) h) ∙ g

-- lines that say nothing are those of no table
pub reached_stop : (bytes rest : List ℕ) (n m k : Noted) (count : ℕ) → Reached bytes n rest m → SayNothing rest m → SayUpTo bytes n k count → ⊥
reached_stop bytes rest n m k count h none g = by go.more go.bytes go.are (says_more h.lines g.lines go.more n m k h.say.said g.say.said go.is) where
  go : GoOn h.lines g.lines rest (drop count bytes)
  go = goes_on_from bytes rest n m k count h g

  by : (more : List Line) → rest ≡ all_bytes more ++ drop count bytes → AreMarkLines more → all_noted more m ≡ Some k → ⊥
  by [] e are said =
      let ends : BeginsOtherLine rest = subst BeginsOtherLine (sym e) g.ends in
      let bad : true ≡ false = sym (none ends.line ends.rest ends.begins).0 ∙ ends.other in cc
  by (l ∷ more) e are said =
      let nothing = (none l (all_bytes more ++ drop count bytes) (first_line l more rest (drop count bytes) are.0 e)).1 in
      let bad : None ≡ Some k = sym (ap (option_and_then (all_noted more)) nothing) ∙ said in cc

-- ---- one reading at most

some_left : (bytes : List ℕ) → BeginsOtherLine bytes → 0 < length bytes
some_left bytes h =
    let front = line_in_front bytes h.rest h.line h.begins in
    let some : 0 < length bytes - length h.rest = front.some in
    omega (arith, some)

pub reading_within : (bytes : List ℕ) (n m : Noted) (count : ℕ) → SayUpTo bytes n m count → count < length bytes
reading_within bytes n m count h =
    let first : 0 < length bytes - count = subst (λ x. 0 < x) (length-drop count bytes) (some_left (drop count bytes) h.ends) in
    omega (arith, first)

pub record IsSameReading (m k : Noted) (count size : ℕ) : Type 0 where
  pub after : m ≡ k
  pub length : count ≡ size

pub same_reading : (bytes : List ℕ) (n m k : Noted) (count size : ℕ) → SayUpTo bytes n m count → SayUpTo bytes n k size → IsSameReading m k count size
same_reading bytes n m k count size h g =
    let rest : List ℕ = drop count bytes in
    let reached : Reached bytes n rest m = record { lines = h.lines; say = h.say; front = sym (take-append-drop count bytes) ∙ ap (λ x. x ++ rest) h.front } in
    let go = goes_on_from bytes rest n m k size reached g in
    let none = no_more go.more rest (drop size bytes) go.are go.bytes h.ends in
    let said : Some m ≡ Some k = sym (ap (λ x. all_noted x m) none) ∙ says_more h.lines g.lines go.more n m k h.say.said g.say.said go.is in
    let left : rest ≡ drop size bytes = go.bytes ∙ ap (λ x. all_bytes x ++ drop size bytes) none in
    let long : length bytes - count ≡ length bytes - size = sym (length-drop count bytes) ∙ ap length left ∙ length-drop size bytes in
    let first : 0 < length bytes - count = subst (λ x. 0 < x) (length-drop count bytes) (some_left rest h.ends) in
    record { after = same_some m k said; length = omega (arith, long, first) } where
      same_some : (x y : Noted) → Some x ≡ Some y → x ≡ y
      same_some x y e = cc

-- ---- tables

pub table_from_reading : (scalars arrays : ℕ) (bytes : List ℕ) (m : Noted) (count : ℕ) → SayUpTo bytes (nothing_noted scalars arrays) m count → IsTableInFront scalars arrays bytes m.table count
table_from_reading scalars arrays bytes m count h = record {
  lines = h.lines;
  say = record { lines = h.say.lines; mark_lines = h.say.mark_lines; said = ap table_in h.say.said };
  front = h.front;
  ends = h.ends;
}

pub record IsReadingOf (scalars arrays : ℕ) (bytes : List ℕ) (table : Table) (count : ℕ) : Type 0 where
  pub after : Noted
  pub is : after.table ≡ table
  pub reading : SayUpTo bytes (nothing_noted scalars arrays) after count

pub reading_of_table : (scalars arrays : ℕ) (bytes : List ℕ) (table : Table) (count : ℕ) → IsTableInFront scalars arrays bytes table count → IsReadingOf scalars arrays bytes table count
reading_of_table scalars arrays bytes table count h = by (all_noted h.lines n) refl h.say.said where
  n : Noted
  n = nothing_noted scalars arrays

  same_some : (x y : Table) → Some x ≡ Some y → x ≡ y
  same_some x y e = cc

  by : (o : Option Noted) → all_noted h.lines n ≡ o → table_in o ≡ Some table → IsReadingOf scalars arrays bytes table count
  by None e said = let bad : None ≡ Some table = said in cc
  by (Some m) e said = record {
    after = m;
    is = same_some m.table table said;
    reading = record { lines = h.lines; say = record { lines = h.say.lines; mark_lines = h.say.mark_lines; said = e }; front = h.front; ends = h.ends };
  }

pub record IsSameTable (table other : Table) (count size : ℕ) : Type 0 where
  pub noted : table ≡ other
  pub length : count ≡ size

pub same_table : (scalars arrays : ℕ) (bytes : List ℕ) (table other : Table) (count size : ℕ) → IsTableInFront scalars arrays bytes table count →
    IsTableInFront scalars arrays bytes other size → IsSameTable table other count size
same_table scalars arrays bytes table other count size h g =
    let first = reading_of_table scalars arrays bytes table count h in
    let second = reading_of_table scalars arrays bytes other size g in
    let same = same_reading bytes (nothing_noted scalars arrays) first.after second.after count size first.reading second.reading in
    record { noted = sym first.is ∙ ap (λ (x : Noted). x.table) same.after ∙ second.is; length = same.length }

pub table_in_front : (scalars arrays : ℕ) (ls : List Line) (table : Table) (next : Line) (rest : List ℕ) → SayTable scalars arrays ls table → IsLine next → is_mark_line next ≡ false →
    IsTableInFront scalars arrays (all_bytes ls ++ (line_bytes next ++ rest)) table (length (all_bytes ls))
table_in_front scalars arrays ls table next rest h is_line other =
    let after : List ℕ = line_bytes next ++ rest in
    let left : after ≡ drop (length (all_bytes ls)) (all_bytes ls ++ after) = sym (drop_at (all_bytes ls) after (length (all_bytes ls)) refl) in
    let ends : BeginsOtherLine after = record { line = next; rest = rest; begins = record { line = is_line; front = refl }; other = other } in
    record {
      lines = ls;
      say = h;
      front = take_at (all_bytes ls) after (length (all_bytes ls)) refl;
      ends = subst BeginsOtherLine left ends;
    }

-- ---- no table

abbrev pub NoReading : List ℕ → Noted → Type 0
NoReading bytes n = (after : Noted) (count : ℕ) → ¬ SayUpTo bytes n after count

pub no_table : (scalars arrays : ℕ) (bytes : List ℕ) (n : Noted) → n ≡ nothing_noted scalars arrays → NoReading bytes n → (table : Table) (count : ℕ) → ¬ IsTableInFront scalars arrays bytes table count
no_table scalars arrays bytes n e none table count h =
    let reading = reading_of_table scalars arrays bytes table count h in
    none reading.after count (subst (λ (x : Noted). SayUpTo bytes x reading.after count) (sym e) reading.reading)

pub read_same : (scalars arrays : ℕ) (bytes : List ℕ) (n m : Noted) (table : Table) (count size : ℕ) → n ≡ nothing_noted scalars arrays → SayUpTo bytes n m count →
    IsTableInFront scalars arrays bytes table size → (m.table ≡ table) × (count ≡ size)
read_same scalars arrays bytes n m table count size e h g =
    let reading : SayUpTo bytes (nothing_noted scalars arrays) m count = subst (λ (x : Noted). SayUpTo bytes x m count) e h in
    let same = same_table scalars arrays bytes m.table table count size (table_from_reading scalars arrays bytes m count reading) g in
    (same.noted, same.length)
