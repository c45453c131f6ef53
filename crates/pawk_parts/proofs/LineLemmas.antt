-- Lines that are appended one after the other, and what they say.
use Rattle.std.proofs.Common.{◌≡◌, ◌<◌, ◌≤◌, ℕ, true, List, [], ◌∷◌, ◌++◌, length, take, Option, Some, None, refl, sym, ◌∙◌, ap, arith, append_assoc}
use Rattle.std.specs.Prelude.{nat_lt}
use Rattle.std.specs.Option.{option_and_then}
use Rattle.std.proofs.lemmas.Bool.Decides.{Decides-ltb}
use Rattle.std.proofs.lemmas.List.{append-nil, take-take, length-take}
use Rattle.std.proofs.lemmas.List.Concat.{flat_map-append}
use Rattle.std.proofs.lemmas.List.Elements.{All-nil, All-cons, All-append}
use Rattle.pawk_world.specs.Worlds.{Cell}
use Rattle.pawk_world.specs.Worlds as cell
use Rattle.pawk_frozen.specs.Marks.{blank, mark_at, with_mark}
use Rattle.pawk_lines.specs.Lines.{Line, IsLine, line_bytes}
use Rattle.pawk_lines.specs.Lines as lines
use Rattle.pawk_parts.specs.Parts.{Noted, noted, all_noted, all_bytes, is_mark_line, is_only, mark_of}
use Rattle.pawk_parts.specs.Writing.{Say, Appends}

-- ---- lines one after the other

pub all_noted-append : (ls ks : List Line) (n : Noted) → all_noted (ls ++ ks) n ≡ option_and_then (all_noted ks) (all_noted ls n)
all_noted-append [] ks n = refl
all_noted-append (l ∷ ls) ks n = by (noted l n) (all_noted-append ls ks) where
  by : (o : Option Noted) → ((m : Noted) → all_noted (ls ++ ks) m ≡ option_and_then (all_noted ks) (all_noted ls m)) →
      option_and_then (all_noted (ls ++ ks)) o ≡ option_and_then (all_noted ks) (option_and_then (all_noted ls) o)
  by None rest = refl
  by (Some m) rest = rest m

pub say_none : (n : Noted) → Say [] n n
say_none n = record { lines = All-nil IsLine; mark_lines = All-nil (λ l. is_mark_line l ≡ true); said = refl }

pub say_one : (l : Line) (n m : Noted) → IsLine l → is_mark_line l ≡ true → noted l n ≡ Some m → Say (l ∷ []) n m
say_one l n m h mark said = record {
  lines = All-cons IsLine l [] h (All-nil IsLine);
  mark_lines = All-cons (λ k. is_mark_line k ≡ true) l [] mark (All-nil (λ k. is_mark_line k ≡ true));
  said = ap (option_and_then (all_noted [])) said;
}

pub say-append : (ls ks : List Line) (n m k : Noted) → Say ls n m → Say ks m k → Say (ls ++ ks) n k
say-append ls ks n m k h g = record {
  lines = All-append IsLine ls ks h.lines g.lines;
  mark_lines = All-append (λ l. is_mark_line l ≡ true) ls ks h.mark_lines g.mark_lines;
  said = all_noted-append ls ks n ∙ ap (option_and_then (all_noted ks)) h.said ∙ g.said;
}

-- ---- lines that were appended

pub appends_none : (old : List ℕ) (n : Noted) → Appends old old n n
appends_none old n = record { lines = []; say = say_none n; bytes = sym (append-nil old) }

pub appends_line : (old new : List ℕ) (l : Line) (n m : Noted) → new ≡ old ++ line_bytes l → IsLine l → is_mark_line l ≡ true → noted l n ≡ Some m → Appends old new n m
appends_line old new l n m e h mark said = record {
  lines = l ∷ [];
  say = say_one l n m h mark said;
  bytes = e ∙ ap (λ b. old ++ b) (sym (append-nil (line_bytes l)));
}

pub appends-appends : (a b c : List ℕ) (n m k : Noted) → Appends a b n m → Appends b c m k → Appends a c n k
appends-appends a b c n m k h g = record {
  lines = h.lines ++ g.lines;
  say = say-append h.lines g.lines n m k h.say g.say;
  bytes =
      g.bytes
      ∙ ap (λ x. x ++ all_bytes g.lines) h.bytes
      ∙ append_assoc a (all_bytes h.lines) (all_bytes g.lines)
      ∙ ap (λ x. a ++ x) (sym (flat_map-append line_bytes h.lines g.lines));
}

-- what was there stays in front
pub kept-kept : (a b c : List ℕ) → take (length a) b ≡ a → take (length b) c ≡ b → take (length a) c ≡ a
kept-kept a b c h g =
    let short : length a ≤ length b = omega (arith, ap length h, length-take (length a) b) in
    sym (take-take (length a) (length b) c short) ∙ ap (take (length a)) g ∙ h

-- ---- what a line says

pub is_below : (k n : ℕ) → k < n → nat_lt k n ≡ true
is_below k n h = (Decides-ltb k n).1 h

-- a mark of a cell of which nothing was noted
pub scalar_said : (slot : ℕ) (m : lines.Mark) (n : Noted) → slot < length n.table.scalars → is_only m ≡ true → mark_at (cell.scalar slot) n.table ≡ blank →
    noted (lines.scalar slot m) n ≡ Some (record n { table = with_mark (cell.scalar slot) (mark_of m) n.table })
scalar_said slot m n within only none = rw (is_below slot (length n.table.scalars) within, only, none) refl

pub array_said : (slot : ℕ) (n : Noted) → slot < length n.table.arrays → noted (lines.array slot) n ≡ Some (record n { array = Some slot })
array_said slot n within = rw (is_below slot (length n.table.arrays) within) refl

pub element_said : (slot : ℕ) (key : List ℕ) (m : lines.Mark) (n : Noted) → n.array ≡ Some slot → is_only m ≡ true → mark_at (cell.element slot key) n.table ≡ blank →
    noted (lines.element key m) n ≡ Some (record n { table = with_mark (cell.element slot key) (mark_of m) n.table })
element_said slot key m n array only none = rw (array, only, none) refl
