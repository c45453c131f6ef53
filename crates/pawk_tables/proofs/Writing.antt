-- Lines that are written one after the other.
use Rattle.std.proofs.Common.{◌≡◌, ℕ, List, [], ◌∷◌, ◌++◌, ap, sym, ◌∙◌, append_assoc}
use Rattle.std.specs.Prelude.{Result, OnOk}
use Rattle.std.proofs.lemmas.List.{append-nil}
use Rattle.std.proofs.lemmas.List.Concat.{flat_map-append}
use Rattle.std.proofs.lemmas.Result.{on_ok_weaker}
use Rattle.pawk_lines.specs.Lines.{Line, line_bytes}
use Rattle.pawk_parts.specs.Parts.{all_bytes}

pub all_bytes-append : (ls ks : List Line) → all_bytes (ls ++ ks) ≡ all_bytes ls ++ all_bytes ks
all_bytes-append ls ks = flat_map-append line_bytes ls ks

-- some lines after others
pub two_written : (s t u : List ℕ) (ls ks : List Line) → t ≡ s ++ all_bytes ls → u ≡ t ++ all_bytes ks → u ≡ s ++ all_bytes (ls ++ ks)
two_written s t u ls ks e f =
    f ∙ ap (λ v. v ++ all_bytes ks) e ∙ append_assoc s (all_bytes ls) (all_bytes ks) ∙ ap (λ v. s ++ v) (sym (all_bytes-append ls ks))

-- the last lines, of a call whose answer is the answer
pub last_written : {E : Type 0} (r : Result (Unit {0}) E) (s t u : List ℕ) (ls ks : List Line) → t ≡ s ++ all_bytes ls → OnOk r (u ≡ t ++ all_bytes ks) → OnOk r (u ≡ s ++ all_bytes (ls ++ ks))
last_written r s t u ls ks e f = on_ok_weaker r (λ g. two_written s t u ls ks e g) f

-- four groups of lines
pub four_written : {E : Type 0} (r : Result (Unit {0}) E) (s t u v w : List ℕ) (ls ks js is : List Line) → t ≡ s ++ all_bytes ls → u ≡ t ++ all_bytes ks → v ≡ u ++ all_bytes js → OnOk r (w ≡ v ++ all_bytes is) → OnOk r (w ≡ s ++ all_bytes (ls ++ (ks ++ (js ++ is))))
four_written r s t u v w ls ks js is e f g h =
    last_written r s t w ls (ks ++ (js ++ is)) e (last_written r t u w ks (js ++ is) f (last_written r u v w js is g h))

-- a line, one more, and others
pub lines_written : (s t u v : List ℕ) (l k : Line) (ls : List Line) → t ≡ s ++ line_bytes l → u ≡ t ++ line_bytes k → v ≡ u ++ all_bytes ls → v ≡ s ++ all_bytes (l ∷ k ∷ ls)
lines_written s t u v l k ls e f g =
    let second : u ≡ (s ++ line_bytes l) ++ line_bytes k = f ∙ ap (λ w. w ++ line_bytes k) e in
    g ∙ ap (λ w. w ++ all_bytes ls) second ∙ append_assoc (s ++ line_bytes l) (line_bytes k) (all_bytes ls) ∙ append_assoc s (line_bytes l) (line_bytes k ++ all_bytes ls)

-- three lines, the last one by a call whose answer is the answer
pub three_written : {E : Type 0} (r : Result (Unit {0}) E) (s t u v : List ℕ) (l k j : Line) → t ≡ s ++ line_bytes l → u ≡ t ++ line_bytes k → OnOk r (v ≡ u ++ line_bytes j) → OnOk r (v ≡ s ++ all_bytes (l ∷ k ∷ j ∷ []))
three_written r s t u v l k j e f h = on_ok_weaker r (λ g. lines_written s t u v l k (j ∷ []) e f (g ∙ ap (λ w. u ++ w) (sym (append-nil (line_bytes j))))) h
