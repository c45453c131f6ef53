-- Quotients, remainders and powers.
use Rattle.std.proofs.Common.{◌≡◌, ◌⊎◌, inl, inr, ℕ, ℤ, pos, negsuc, zero, suc, neg_ℤ, ◌+ℤ◌, ◌-ℤ◌, ◌*ℤ◌, ◌*◌, ◌%◌, ◌^◌, ◌<◌, ◌≤◌, Bool, true, false, cond, eqb, Ok, Err, refl, ap, sym, ◌∙◌, arith, suc-mul, mul_comm}
use Rattle.std.proofs.lemmas.Bool.{false≢true, cases_eq}
use Rattle.std.proofs.lemmas.Bool.Decides.{nat_tests}
use Rattle.std.proofs.lemmas.Int.{ints, quot-rem, rem_below, unsigned_abs-mul}
use Rattle.std.proofs.Math.Nat.{pow-succ', pow-zero, one-le-pow}
use Rattle.std.proofs.Math.IntN.{*ℤ_comm, suc_ℤ-*ℤ, *ℤ-zero, zero-*ℤ, *ℤ-negsuc, pos-*ℤ-pos, pos-*ℤ-negsuc, negsuc-*ℤ-negsuc}
use Rattle.std.specs.Int.{int_pow}
use Rattle.std.specs.Int.RustNames.{unsigned_abs, int_div, int_rem}
use Rattle.pawk_value.specs.declared.faults.Fault.TheVariants.{Inexact}
use Rattle.pawk_value.specs.Arithmetic.{is_zero, quotient}
use Rattle.pawk_value.specs.ArithmeticLaw.{is_below_zero, IsRemainder, ArithmeticLaw}

some_size : (y : ℤ) → is_zero y ≡ false → 0 < unsigned_abs y
some_size (pos zero) h = absurd (false≢true (sym h))
some_size (pos (suc n)) h = omega arith
some_size (negsuc n) h = omega arith

zero_is : (z : ℤ) → is_zero z ≡ true → z ≡ pos 0
zero_is (pos zero) h = refl
zero_is (pos (suc n)) h = absurd (false≢true h)
zero_is (negsuc n) h = absurd (false≢true h)

no_size : (z : ℤ) → unsigned_abs z ≡ 0 → z ≡ pos 0
no_size (pos n) h = ap pos h
no_size (negsuc n) h = absurd (omega arith)

-- a multiple of y that is less than y in size is none
few : (n m : ℕ) → n * m < m → n ≡ 0
few zero m h = refl
few (suc n) m h = absurd (omega (arith, suc-mul n m))

mul_more : (m : ℤ) (n : ℕ) → m *ℤ pos (suc n) ≡ (m *ℤ pos n) +ℤ m
mul_more m n = *ℤ_comm m (pos (suc n)) ∙ suc_ℤ-*ℤ (pos n) m ∙ ap (λ k. k +ℤ m) (*ℤ_comm (pos n) m)

times_pos : (q p : ℤ) (n : ℕ) → (q -ℤ p) *ℤ pos n ≡ (q *ℤ pos n) -ℤ (p *ℤ pos n)
times_pos q p zero = rw (*ℤ-zero (q -ℤ p), *ℤ-zero q, *ℤ-zero p) refl
times_pos q p (suc n) =
    let more = times_pos q p n in
    rw (mul_more (q -ℤ p) n, mul_more q n, mul_more p n) (omega (arith, ints, more))

times_less : (q p y : ℤ) → (q -ℤ p) *ℤ y ≡ (q *ℤ y) -ℤ (p *ℤ y)
times_less q p (pos n) = times_pos q p n
times_less q p (negsuc n) =
    let all = times_pos q p (suc n) in
    rw (*ℤ-negsuc (q -ℤ p) n, *ℤ-negsuc q n, *ℤ-negsuc p n) (omega (arith, ints, all))

no_multiple : (q y r : ℤ) → q *ℤ y ≡ r → unsigned_abs r < unsigned_abs y → q ≡ pos 0
no_multiple q y r e l = no_size q (few (unsigned_abs q) (unsigned_abs y) (let size = sym (unsigned_abs-mul q y) ∙ ap unsigned_abs e in omega arith))

exact : (x y z : ℤ) → is_zero y ≡ false → z *ℤ y ≡ x → (z ≡ int_div x y) × (int_rem x y ≡ pos 0)
exact x y z h e =
    let apart = times_less z (int_div x y) y in
    let whole = quot-rem x y in
    let left : (z -ℤ int_div x y) *ℤ y ≡ int_rem x y = omega (arith, ints) in
    let none = no_multiple (z -ℤ int_div x y) y (int_rem x y) left (rem_below x y (some_size y h)) in
    (omega (arith, ints), sym left ∙ ap (λ k. k *ℤ y) none ∙ zero-*ℤ y)

quotient_of : (x y : ℤ) → is_zero y ≡ false → quotient x y ≡ cond (is_zero (int_rem x y)) (Ok (int_div x y)) (Err Inexact)
quotient_of x y h = rw h refl

from_quotient : (x y z : ℤ) → is_zero y ≡ false → quotient x y ≡ Ok z → z *ℤ y ≡ x
from_quotient x y z h e =
    let whole = quot-rem x y in
    elim (is_zero (int_rem x y)) as (λ v. (is_zero (int_rem x y) ≡ v) → cond v (Ok (int_div x y)) (Err Inexact) ≡ Ok z → z *ℤ y ≡ x) [
      | true ↦ (λ r f. let none = zero_is (int_rem x y) r in let same : int_div x y ≡ z = cc in rw (← same) (omega (arith, ints)))
      | false ↦ (λ r f. absurd cc)
    ] refl (sym (quotient_of x y h) ∙ e)

to_quotient : (x y z : ℤ) → is_zero y ≡ false → z *ℤ y ≡ x → quotient x y ≡ Ok z
to_quotient x y z h e = let both = exact x y z h e in quotient_of x y h ∙ rw (both.1, both.0) refl

from_inexact : (x y : ℤ) → is_zero y ≡ false → quotient x y ≡ Err Inexact → (z : ℤ) → z *ℤ y ≡ x → ⊥
from_inexact x y h e z f = let is = to_quotient x y z h f in cc

to_inexact : (x y : ℤ) → is_zero y ≡ false → ((z : ℤ) → z *ℤ y ≡ x → ⊥) → quotient x y ≡ Err Inexact
to_inexact x y h none =
    let whole = quot-rem x y in
    quotient_of x y h ∙ elim (is_zero (int_rem x y)) as (λ v. (is_zero (int_rem x y) ≡ v) → cond v (Ok (int_div x y)) (Err Inexact) ≡ Err Inexact) [
      | true ↦ (λ r. let left = zero_is (int_rem x y) r in absurd (none (int_div x y) (omega (arith, ints))))
      | false ↦ (λ r. refl)
    ] refl

neg_sign : (n : ℕ) → (neg_ℤ (pos n) ≡ pos 0) ⊎ (is_below_zero (neg_ℤ (pos n)) ≡ true)
neg_sign zero = inl refl
neg_sign (suc n) = inr refl

rem_sign : (x y : ℤ) → (int_rem x y ≡ pos 0) ⊎ (is_below_zero (int_rem x y) ≡ is_below_zero x)
rem_sign (pos a) y = inr refl
rem_sign (negsuc a) y = neg_sign (suc a % unsigned_abs y)

remainder_is : (x y : ℤ) → is_zero y ≡ false → IsRemainder x y (int_rem x y)
remainder_is x y h = record { times = (int_div x y, quot-rem x y); less = rem_below x y (some_size y h); sign = rem_sign x y }

apart_pos : (a c m : ℕ) → a < m → c < m → unsigned_abs (pos a -ℤ pos c) < m
apart_pos a c m h k = omega (arith, ints)

apart_neg : (a c m : ℕ) → suc a < m → suc c < m → unsigned_abs (negsuc a -ℤ negsuc c) < m
apart_neg a c m h k = omega (arith, ints)

from_none : (z : ℤ) (m : ℕ) → unsigned_abs z < m → unsigned_abs (pos 0 -ℤ z) < m
from_none z m h = omega (arith, ints)

none_from : (z : ℤ) (m : ℕ) → unsigned_abs z < m → unsigned_abs (z -ℤ pos 0) < m
none_from z m h = omega (arith, ints)

same_side : (z r : ℤ) (m : ℕ) → unsigned_abs z < m → unsigned_abs r < m → is_below_zero z ≡ is_below_zero r → unsigned_abs (z -ℤ r) < m
same_side (pos a) (pos c) m h k e = apart_pos a c m h k
same_side (pos a) (negsuc c) m h k e = absurd (false≢true e)
same_side (negsuc a) (pos c) m h k e = absurd (false≢true (sym e))
same_side (negsuc a) (negsuc c) m h k e = apart_neg a c m h k

near : (z r : ℤ) (b : Bool) (m : ℕ) → unsigned_abs z < m → unsigned_abs r < m → (z ≡ pos 0) ⊎ (is_below_zero z ≡ b) → (r ≡ pos 0) ⊎ (is_below_zero r ≡ b) → unsigned_abs (z -ℤ r) < m
near z r b m h k (inl e) t = rw e (from_none r m k)
near z r b m h k (inr s) (inl e) = rw e (none_from z m h)
near z r b m h k (inr s) (inr t) = same_side z r m h k (s ∙ sym t)

no_other : (x y z : ℤ) → is_zero y ≡ false → IsRemainder x y z → z ≡ int_rem x y
no_other x y z h is =
    let r = int_rem x y in
    let q = is.times.0 in
    let apart = times_less (int_div x y) q y in
    let whole = quot-rem x y in
    let theirs = is.times.1 in
    let gap : (int_div x y -ℤ q) *ℤ y ≡ z -ℤ r = omega (arith, ints) in
    let less = near z r (is_below_zero x) (unsigned_abs y) is.less (rem_below x y (some_size y h)) is.sign (rem_sign x y) in
    let none = no_multiple (int_div x y -ℤ q) y (z -ℤ r) gap less in
    let nothing = sym gap ∙ ap (λ k. k *ℤ y) none ∙ zero-*ℤ y in
    omega (arith, ints)

negatives : (m a : ℕ) → 1 ≤ m → pos (m * suc a) ≡ neg_ℤ (pos m) *ℤ negsuc a
negatives zero a h = absurd (omega arith)
negatives (suc m) a h = sym (negsuc-*ℤ-negsuc m a)

more_of_negative : (a n : ℕ) → int_pow (negsuc a) (suc n) ≡ int_pow (negsuc a) n *ℤ negsuc a
more_of_negative a n =
    let size : suc a ^ suc n ≡ suc a ^ n * suc a = pow-succ' (suc a) n ∙ mul_comm (suc a) (suc a ^ n) in
    elim (cases_eq (n % 2) 0) [
      | inl even ↦
          let now : eqb (n % 2) 0 ≡ true = grind (arith, nat_tests) in
          let odd : suc n % 2 ≡ 1 = omega arith in
          let next : eqb (suc n % 2) 0 ≡ false = grind (arith, nat_tests) in
          rw (now, next, size) (sym (pos-*ℤ-negsuc (suc a ^ n) a))
      | inr odd ↦
          let now : eqb (n % 2) 0 ≡ false = grind (arith, nat_tests) in
          let even : suc n % 2 ≡ 0 = omega arith in
          let next : eqb (suc n % 2) 0 ≡ true = grind (arith, nat_tests) in
          rw (now, next, size) (negatives (suc a ^ n) a (one-le-pow n (suc a) (omega arith)))
    ]

power_more : (x : ℤ) (n : ℕ) → int_pow x (suc n) ≡ int_pow x n *ℤ x
power_more (pos a) n = ap pos (pow-succ' a n ∙ omega arith) ∙ sym (pos-*ℤ-pos (a ^ n) a)
power_more (negsuc a) n = more_of_negative a n

power_none : (x : ℤ) → int_pow x 0 ≡ pos 1
power_none (pos a) = ap pos (pow-zero a)
power_none (negsuc a) = ap pos (pow-zero (suc a))

pub arithmetic_law : (x y : ℤ) → ArithmeticLaw x y
arithmetic_law x y = record {
  exact_quotient = λ h z. (from_quotient x y z h, to_quotient x y z h);
  no_quotient = λ h. (from_inexact x y h, to_inexact x y h);
  one_remainder = λ h. remainder_is x y h;
  no_other_remainder = λ h z is. no_other x y z h is;
  no_factor = power_none x;
  more_factors = λ n. power_more x n;
}
