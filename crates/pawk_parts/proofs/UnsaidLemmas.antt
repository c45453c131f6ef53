-- No lines leave a mark that no line says.
use Rattle.std.proofs.Common.{◌≡◌, ℕ, zero, suc, Bool, true, false, List, [], ◌∷◌, get_or, set, replicate, Option, Some, None, refl, sym, ◌∙◌, subst}
use Rattle.std.specs.Prelude.{nat_lt, if◌then◌else◌, ◌&&◌, length}
use Rattle.std.specs.Option.{option_and_then}
use Rattle.std.specs.List.{All}
use Rattle.std.specs.Str.{bytes_eq}
use Rattle.std.proofs.lemmas.List.Elements.{All-head, All-tail}
use Rattle.pawk_keyed_map.specs.Keyed.{found}
use Rattle.pawk_keyed_map.proofs.EntriesLemmas.{found-put}
use Rattle.pawk_world.specs.Worlds.{Cell}
use Rattle.pawk_world.specs.Worlds as cell
use Rattle.pawk_frozen.specs.Marks.{Mark, Marks, Table, blank, summed, last_put, created, blank_table, mark_at, with_mark, put_mark}
use Rattle.pawk_lines.specs.Lines.{Line, IsLine, IsMark}
use Rattle.pawk_lines.specs.Lines as lines
use Rattle.pawk_parts.specs.Parts.{Noted, noted, all_noted, nothing_noted, table_in, mark_of, is_only, is_blank, SayTable, with_new_key}
use Rattle.pawk_parts.specs.Writing.{MayBeSaid, MayBeLeft, HasUnsaid}

pub may_be_left : (m : Mark) → MayBeSaid m → MayBeLeft m
may_be_left blank h = absurd h
may_be_left (summed total least greatest) h = h
may_be_left (last_put value) h = tt
may_be_left created h = tt

may_be_said : (m : lines.Mark) → IsMark m → MayBeSaid (mark_of m)
may_be_said (lines.added total) h = (h, h, h)
may_be_said (lines.sum total least greatest) h = h
may_be_said (lines.put value) h = tt
may_be_said lines.created h = tt

-- ---- tables of such marks

abbrev SaidElements : Marks → Type 0
SaidElements ms = (key : List ℕ) (m : Mark) → found key ms ≡ Some m → MayBeSaid m

record AllSaid (t : Table) : Type 0 where
  scalars : (slot : ℕ) → MayBeLeft (get_or t.scalars slot blank)
  arrays : (slot : ℕ) → SaidElements (get_or t.arrays slot [])

replicated : {A : Type 0} (n i : ℕ) (d : A) → get_or (replicate n d) i d ≡ d
replicated zero i d = refl
replicated (suc n) zero d = refl
replicated (suc n) (suc i) d = replicated n i d

none_said : SaidElements []
none_said key m e = let bad : None ≡ Some m = e in cc

blank_said : (scalars arrays : ℕ) → AllSaid (blank_table scalars arrays)
blank_said scalars arrays = record {
  scalars = λ slot. rw (replicated scalars slot blank) tt;
  arrays = λ slot. subst SaidElements (sym (replicated arrays slot [])) none_said;
}

set_keeps : {A : Type 0} (P : A → Type 0) (xs : List A) (n i : ℕ) (v d : A) → P v → P (get_or xs i d) → P (get_or (set xs n v) i d)
set_keeps P [] n i v d h g = g
set_keeps P (x ∷ xs) zero zero v d h g = h
set_keeps P (x ∷ xs) zero (suc i) v d h g = g
set_keeps P (x ∷ xs) (suc n) zero v d h g = g
set_keeps P (x ∷ xs) (suc n) (suc i) v d h g = set_keeps P xs n i v d h g

same_some : {A : Type 0} (x y : A) → Some x ≡ Some y → x ≡ y
same_some x y e = cc

put_said : (key : List ℕ) (m : Mark) (ms : Marks) → MayBeSaid m → SaidElements ms → SaidElements (put_mark key m ms)
put_said key m ms h g q u e = by (bytes_eq q key) (sym (found-put q key m ms) ∙ e) where
  by : (b : Bool) → (if b then Some m else found q ms) ≡ Some u → MayBeSaid u
  by true f = subst MayBeSaid (same_some m u f) h
  by false f = g q u f

with_mark_said : (c : Cell) (m : Mark) (t : Table) → MayBeSaid m → AllSaid t → AllSaid (with_mark c m t)
with_mark_said (cell.scalar n) m t h g = record {
  scalars = λ slot. set_keeps MayBeLeft t.scalars n slot m blank (may_be_left m h) (g.scalars slot);
  arrays = g.arrays;
}
with_mark_said (cell.element n key) m t h g = record {
  scalars = g.scalars;
  arrays = λ slot. set_keeps SaidElements t.arrays n slot (put_mark key m (get_or t.arrays n [])) [] (put_said key m (get_or t.arrays n []) h (g.arrays n)) (g.arrays slot);
}

-- ---- what lines leave

at_true : {A : Type 0} (b : Bool) (x y : A) → (if b then Some x else None) ≡ Some y → x ≡ y
at_true true x y e = same_some x y e
at_true false x y e = let bad : None ≡ Some y = e in cc

at_both : {A : Type 0} (b c : Bool) (x y : A) → (if b then (if c then Some x else None) else None) ≡ Some y → x ≡ y
at_both true c x y e = at_true c x y e
at_both false c x y e = let bad : None ≡ Some y = e in cc

key_said : (o : Option ℕ) (key : List ℕ) (m : lines.Mark) (n k : Noted) → MayBeSaid (mark_of m) → with_new_key o key m n ≡ Some k → AllSaid n.table → AllSaid k.table
key_said None key m n k h e all = let bad : None ≡ Some k = e in cc
key_said (Some slot) key m n k h e all =
    let c = cell.element slot key in
    let is = at_true (is_only m && is_blank (mark_at c n.table)) (record n { table = with_mark c (mark_of m) n.table }) k e in
    subst (λ (x : Noted). AllSaid x.table) is (with_mark_said c (mark_of m) n.table h all)

line_said : (l : Line) (n k : Noted) → IsLine l → noted l n ≡ Some k → AllSaid n.table → AllSaid k.table
line_said (lines.scalar slot m) n k h e all =
    let c = cell.scalar slot in
    let is = at_both (nat_lt slot (length n.table.scalars)) (is_only m && is_blank (mark_at c n.table)) (record n { table = with_mark c (mark_of m) n.table }) k e in
    subst (λ (x : Noted). AllSaid x.table) is (with_mark_said c (mark_of m) n.table (may_be_said m h.1) all)
line_said (lines.array slot) n k h e all =
    let is = at_true (nat_lt slot (length n.table.arrays)) (record n { array = Some slot }) k e in
    subst (λ (x : Noted). AllSaid x.table) is all
line_said (lines.element key m) n k h e all = key_said n.array key m n k (may_be_said m h.1) e all
line_said l n k h e all = let bad : None ≡ Some k = e in cc

lines_said : (ls : List Line) (n k : Noted) → All IsLine ls → all_noted ls n ≡ Some k → AllSaid n.table → AllSaid k.table
lines_said [] n k h e all = subst (λ (x : Noted). AllSaid x.table) (same_some n k e) all
lines_said (l ∷ ls) n k h e all =
    by (noted l n) refl e (λ m f. lines_said ls m k (All-tail IsLine l ls h) f) where
      by : (o : Option Noted) → noted l n ≡ o → option_and_then (all_noted ls) o ≡ Some k → ((m : Noted) → all_noted ls m ≡ Some k → AllSaid m.table → AllSaid k.table) → AllSaid k.table
      by None f g rest = let bad : None ≡ Some k = g in cc
      by (Some m) f g rest = rest m g (line_said l n m (All-head IsLine l ls h) f all)

table_said : (scalars arrays : ℕ) (ls : List Line) (t : Table) → SayTable scalars arrays ls t → AllSaid t
table_said scalars arrays ls t h = by (all_noted ls start) refl h.said where
  start : Noted
  start = nothing_noted scalars arrays

  by : (o : Option Noted) → all_noted ls start ≡ o → table_in o ≡ Some t → AllSaid t
  by None e f = let bad : None ≡ Some t = f in cc
  by (Some n) e f = subst AllSaid (same_some n.table t f) (lines_said ls start n h.lines e (blank_said scalars arrays))

pub unsaid_scalar : (scalars arrays : ℕ) (t : Table) (slot : ℕ) → ¬ MayBeLeft (get_or t.scalars slot blank) → (ls : List Line) → ¬ SayTable scalars arrays ls t
unsaid_scalar scalars arrays t slot unsaid ls h = unsaid ((table_said scalars arrays ls t h).scalars slot)

pub unsaid_element : (scalars arrays : ℕ) (t : Table) (slot : ℕ) → HasUnsaid (get_or t.arrays slot []) → (ls : List Line) → ¬ SayTable scalars arrays ls t
unsaid_element scalars arrays t slot has ls h = has.unsaid ((table_said scalars arrays ls t h).arrays slot has.key has.mark has.has)
