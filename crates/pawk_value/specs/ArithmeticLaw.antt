-- Arithmetic in the words of the subject: what a quotient, a remainder and a power are.
use Rattle.std.specs.Prelude.{◌≡◌, ◌⊎◌, ◌↔◌, ℕ, suc, ℤ, pos, negsuc, ◌+ℤ◌, ◌*ℤ◌, ◌<◌, Bool, true, false, Ok, Err, int_rem, unsigned_abs}
use Rattle.std.specs.Int.{int_pow}
use Rattle.pawk_value.specs.declared.faults.Fault.TheVariants.{Inexact}
use Rattle.pawk_value.specs.Arithmetic.{is_zero, quotient}

-- below 0
abbrev pub is_below_zero : ℤ → Bool
is_below_zero (pos n) = false
is_below_zero (negsuc n) = true

-- z is what is left of x when y is taken out as often as it goes: less than y in size, with the sign of x
pub record IsRemainder (x y z : ℤ) : Type 0 where
  pub times : (q : ℤ) × ((q *ℤ y) +ℤ z ≡ x)
  pub less : unsigned_abs z < unsigned_abs y
  pub sign : (z ≡ pos 0) ⊎ (is_below_zero z ≡ is_below_zero x)

pub record ArithmeticLaw (x y : ℤ) : Type 0 where
  -- the quotient is the number that times y is x, and there is none exactly where the fault is reported
  pub exact_quotient : is_zero y ≡ false → (z : ℤ) → (quotient x y ≡ Ok z) ↔ (z *ℤ y ≡ x)
  pub no_quotient : is_zero y ≡ false → (quotient x y ≡ Err Inexact) ↔ ((z : ℤ) → z *ℤ y ≡ x → ⊥)
  -- the remainder is one, and the only one
  pub one_remainder : is_zero y ≡ false → IsRemainder x y (int_rem x y)
  pub no_other_remainder : is_zero y ≡ false → (z : ℤ) → IsRemainder x y z → z ≡ int_rem x y
  -- a power is a product
  pub no_factor : int_pow x 0 ≡ pos 1
  pub more_factors : (n : ℕ) → int_pow x (suc n) ≡ int_pow x n *ℤ x
