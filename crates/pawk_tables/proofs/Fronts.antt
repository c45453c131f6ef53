-- Lines in front of bytes.
use Rattle.std.proofs.Common.{◌≡◌, ℕ, List, [], ◌∷◌, ◌++◌, length, Bool, true, false, refl, ap, sym, ◌∙◌, subst, arith, append_assoc}
use Rattle.std.specs.Prelude.{All, IsTrue}
use Rattle.std.proofs.lemmas.List.Elements.{All-cons, All-head, All-tail, All-nil, All-append}
use Rattle.pawk_lines.specs.Lines.{Line, IsLine, BeginsLine, line_bytes}
use Rattle.pawk_lines.proofs.LineLaws.{line_same}
use Rattle.pawk_parts.specs.Parts.{all_bytes, is_mark_line, BeginsOtherLine}
use Rattle.pawk_tables.specs.Reading.{is_assign_line, BeginsLines, BeginsNoAssignment}
use Rattle.pawk_tables.proofs.Writing.{all_bytes-append}

-- no lines
pub no_lines : (s : List ℕ) → BeginsLines s [] s
no_lines s = record { lines = All-nil IsLine; front = refl }

-- a line and more
pub more_lines : (s r q : List ℕ) (l : Line) (ls : List Line) → BeginsLine s l r → BeginsLines r ls q → BeginsLines s (l ∷ ls) q
more_lines s r q l ls h k = record {
  lines = All-cons IsLine l ls h.line k.lines;
  front = h.front ∙ ap (λ v. line_bytes l ++ v) k.front ∙ sym (append_assoc (line_bytes l) (all_bytes ls) q);
}

pub one_line : (s r : List ℕ) (l : Line) → BeginsLine s l r → BeginsLines s (l ∷ []) r
one_line s r l h = more_lines s r r l [] h (no_lines r)

-- the first line
pub first_line : (s q : List ℕ) (l : Line) (ls : List Line) → BeginsLines s (l ∷ ls) q → BeginsLine s l (all_bytes ls ++ q)
first_line s q l ls h = record { line = All-head IsLine l ls h.lines; front = h.front ∙ append_assoc (line_bytes l) (all_bytes ls) q }

-- the lines after the first
pub other_lines : (q : List ℕ) (l : Line) (ls : List Line) → All IsLine (l ∷ ls) → BeginsLines (all_bytes ls ++ q) ls q
other_lines q l ls h = record { lines = All-tail IsLine l ls h; front = refl }

pub record After (l k : Line) (r : List ℕ) (ks : List Line) (q : List ℕ) : Type 0 where
  pub line : l ≡ k
  pub others : BeginsLines r ks q

-- after the line in front come the others
pub after_line : (s r q : List ℕ) (l k : Line) (ks : List Line) → BeginsLine s l r → BeginsLines s (k ∷ ks) q → After l k r ks q
after_line s r q l k ks h j =
    let same = line_same s l k r (all_bytes ks ++ q) h (first_line s q k ks j) in
    record { line = same.line; others = rw same.left (other_lines q k ks j.lines) }

-- both begin with one line, and what follows it is the same for both
pub record Tails (l k : Line) (ls ks : List Line) (r q : List ℕ) : Type 0 where
  pub line : l ≡ k
  pub middle : List ℕ
  pub mine : BeginsLines middle ls r
  pub others : BeginsLines middle ks q

pub tails_same : (s r q : List ℕ) (l k : Line) (ls ks : List Line) → BeginsLines s (l ∷ ls) r → BeginsLines s (k ∷ ks) q → Tails l k ls ks r q
tails_same s r q l k ls ks h j =
    let t = all_bytes ls ++ r in
    let f = first_line s r l ls h in
    let a = after_line s t q l k ks f j in
    record { line = a.line; middle = t; mine = (after_line s t r l l ls f h).others; others = a.others }

-- ---- lines after lines

pub lines_in_turn : (s r q : List ℕ) (ls ks : List Line) → BeginsLines s ls r → BeginsLines r ks q → BeginsLines s (ls ++ ks) q
lines_in_turn s r q ls ks h k = record {
  lines = All-append IsLine ls ks h.lines k.lines;
  front = h.front ∙ ap (λ v. all_bytes ls ++ v) k.front ∙ sym (append_assoc (all_bytes ls) (all_bytes ks) q) ∙ ap (λ v. v ++ q) (sym (all_bytes-append ls ks));
}

All-front : (ls ks : List Line) → All IsLine (ls ++ ks) → All IsLine ls
All-front [] ks h = All-nil IsLine
All-front (l ∷ ls) ks h = All-cons IsLine l ls (All-head IsLine l (ls ++ ks) h) (All-front ls ks (All-tail IsLine l (ls ++ ks) h))

All-back : (ls ks : List Line) → All IsLine (ls ++ ks) → All IsLine ks
All-back [] ks h = h
All-back (l ∷ ls) ks h = All-back ls ks (All-tail IsLine l (ls ++ ks) h)

pub front_lines : (s q : List ℕ) (ls ks : List Line) → BeginsLines s (ls ++ ks) q → BeginsLines s ls (all_bytes ks ++ q)
front_lines s q ls ks h = record {
  lines = All-front ls ks h.lines;
  front = h.front ∙ ap (λ v. v ++ q) (all_bytes-append ls ks) ∙ append_assoc (all_bytes ls) (all_bytes ks) q;
}

pub back_lines : (s q : List ℕ) (ls ks : List Line) → BeginsLines s (ls ++ ks) q → BeginsLines (all_bytes ks ++ q) ks q
back_lines s q ls ks h = record { lines = All-back ls ks h.lines; front = refl }

-- ---- the same lines

pub record IsSame (ls ks : List Line) (r q : List ℕ) : Type 0 where
  pub lines : ls ≡ ks
  pub left : r ≡ q

-- as many lines in front of the same bytes are the same
pub lines_same : (s r q : List ℕ) (ls ks : List Line) → length ls ≡ length ks → BeginsLines s ls r → BeginsLines s ks q → IsSame ls ks r q
lines_same s r q [] [] e h k = record { lines = refl; left = sym h.front ∙ k.front }
lines_same s r q [] (m ∷ ks) e h k = absurd (omega arith)
lines_same s r q (l ∷ ls) [] e h k = absurd (omega arith)
lines_same s r q (l ∷ ls) (m ∷ ks) e h k =
    let tails = tails_same s r q l m ls ks h k in
    let long : length ls ≡ length ks = omega arith in
    let same = lines_same tails.middle r q ls ks long tails.mine tails.others in
    let head : l ≡ m = tails.line in
    let tail : ls ≡ ks = same.lines in
    record { lines = rw (head, tail) refl; left = same.left }

-- a line that is none of these begins the bytes
pub record BeginsOther (is_one : Line → Bool) (bytes : List ℕ) : Type 0 where
  pub line : Line
  pub rest : List ℕ
  pub begins : BeginsLine bytes line rest
  pub other : is_one line ≡ false

pub from_no_assignment : (s : List ℕ) → BeginsNoAssignment s → BeginsOther is_assign_line s
from_no_assignment s h = record { line = h.line; rest = h.rest; begins = h.begins; other = h.other }

pub from_no_mark : (s : List ℕ) → BeginsOtherLine s → BeginsOther is_mark_line s
from_no_mark s h = record { line = h.line; rest = h.rest; begins = h.begins; other = h.other }

-- a line that is one of these is in front, so no other is
pub other_is_none : (is_one : Line → Bool) (s r : List ℕ) (l : Line) → BeginsOther is_one s → BeginsLine s l r → is_one l ≡ true → ⊥
other_is_none is_one s r l o h e =
    let same = (line_same s o.line l o.rest r o.begins h).line in
    let bad : true ≡ false = sym e ∙ sym (ap is_one same) ∙ o.other in
    cc

-- all lines of a kind in front of the same bytes, up to one that is of another, are the same
pub kind_same : (is_one : Line → Bool) (s r q : List ℕ) (ls ks : List Line) → All (λ l. IsTrue (is_one l)) ls → All (λ l. IsTrue (is_one l)) ks → BeginsLines s ls r → BeginsOther is_one r → BeginsLines s ks q → BeginsOther is_one q → IsSame ls ks r q
kind_same is_one s r q [] [] a b h o k p = record { lines = refl; left = sym h.front ∙ k.front }
kind_same is_one s r q [] (m ∷ ks) a b h o k p =
    let here : BeginsOther is_one s = subst (BeginsOther is_one) (sym h.front) o in
    absurd (other_is_none is_one s (all_bytes ks ++ q) m here (first_line s q m ks k) (All-head (λ l. IsTrue (is_one l)) m ks b))
kind_same is_one s r q (l ∷ ls) [] a b h o k p =
    let here : BeginsOther is_one s = subst (BeginsOther is_one) (sym k.front) p in
    absurd (other_is_none is_one s (all_bytes ls ++ r) l here (first_line s r l ls h) (All-head (λ l. IsTrue (is_one l)) l ls a))
kind_same is_one s r q (l ∷ ls) (m ∷ ks) a b h o k p =
    let tails = tails_same s r q l m ls ks h k in
    let same = kind_same is_one tails.middle r q ls ks (All-tail (λ x. IsTrue (is_one x)) l ls a) (All-tail (λ x. IsTrue (is_one x)) m ks b) tails.mine o tails.others p in
    let head : l ≡ m = tails.line in
    let tail : ls ≡ ks = same.lines in
    record { lines = rw (head, tail) refl; left = same.left }
