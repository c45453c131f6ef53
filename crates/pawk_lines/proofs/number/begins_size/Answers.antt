use Rattle.std.proofs.Common.{◌≡◌, ◌≤◌, ◌<◌, ℕ, Bool, true, ◌↔◌, not, eqb, ltb, List, [], ◌∷◌, length, get_or, arith}
use Rattle.std.specs.Prelude.{IsTrue}
use Rattle.std.proofs.lemmas.Bool.{false≢true, ltb-true, lt-ltb, eq-eqb}
use Rattle.pawk_words.specs.Words.{size_limit}
use Rattle.pawk_lines.specs.Reading.{BeginsDecimal, BeginsSize}
use Rattle.pawk_lines.proofs.NumberLemmas.{size_empty, size_most, size_zero, size_of_decimal, decimal_of_size}
use Rattle.pawk_lines.proofs.number.begins_size.Goals as goal

at_empty : (s : List ℕ) (g : ℕ) → length s < 1 → IsTrue (ltb 0 g) ↔ BeginsSize s g
at_empty [] g h = (λ t. size_empty g (ltb-true 0 g t), λ b. lt-ltb 0 g (size_most [] g b))
at_empty (x ∷ s) g h = absurd (omega arith)

at_zero : (s : List ℕ) (g : ℕ) → g ≤ size_limit → 1 ≤ length s → get_or s 0 0 ≡ 48 → IsTrue (not (eqb (get_or s 0 0) 48)) ↔ BeginsSize s g
at_zero [] g small h e = absurd (omega arith)
at_zero (x ∷ s) g small h e =
    (λ t. absurd (let same = eq-eqb x 48 e in let bad : not true ≡ true = rw same at t in false≢true bad), λ b. absurd (size_zero x s g small e b))

at_digit : (s : List ℕ) (g : ℕ) (r : Bool) → 1 ≤ length s → (get_or s 0 0 ≡ 48 → ⊥) → IsTrue r ↔ BeginsDecimal s g → IsTrue r ↔ BeginsSize s g
at_digit [] g r h other k = absurd (omega arith)
at_digit (x ∷ s) g r h other k = (λ t. size_of_decimal x s g other (k.0 t), λ b. k.1 (decimal_of_size (x ∷ s) g b))

pub returns-in-empty : goal.returns-in-empty
returns-in-empty c = at_empty c.args.bytes.now c.args.greatest c.in-empty.len_below

pub returns-then-first-ne48 : goal.returns-then-first-ne48
returns-then-first-ne48 c = at_digit c.args.bytes.now c.args.greatest c.begins_decimal.result c.in-len1-up.len_at_least c.if-first-ne48.true c.begins_decimal.ensures

pub returns-else-first-ne48 : goal.returns-else-first-ne48
returns-else-first-ne48 c = at_zero c.args.bytes.now c.args.greatest c.requires c.in-len1-up.len_at_least c.if-first-ne48.false
