-- An add whose sum is in range: the chunk does not stop, and the total of the mark is the change of the cell.
use Rattle.std.proofs.Common.{◌≡◌, ◌<◌, ◌^◌, ◌&&◌, ℤ, pos, negsuc, ◌+ℤ◌, Bool, true, false, if◌then◌else◌, Option, Some, Result, Ok, Err, refl, ap, sym, ◌∙◌, subst, arith, rules, tests}
use Rattle.std.proofs.lemmas.Int.{ints}
use Rattle.std.specs.Prelude.{◌≤ℤ◌, ◌-ℤ◌, int_lt, int_le, cond}
use Rattle.std.specs.Int.{int_min, int_max}
use Rattle.pawk_value.specs.declared.faults.Fault.{Fault}
use Rattle.pawk_value.specs.declared.faults.Fault.TheVariants.{Overflow}
use Rattle.pawk_value.specs.Range.{FitsWord, in_range, in_range_or_fault}
use Rattle.pawk_value.specs.Value.{Val, Num}
use Rattle.pawk_value.specs.Conversion.{num_of}
use Rattle.pawk_array.specs.Entries.{value_of}
use Rattle.pawk_admit.specs.declared.role.Role.TheVariants.{Adder}
use Rattle.pawk_frozen.specs.Marks.{Mark, blank, summed, last_put, created, with_amount}
use Rattle.pawk_frozen.specs.Frozens.{greatest_sum, is_sum}
use Rattle.pawk_commute.specs.Settings.{FitsIfOk}
use Rattle.pawk_commute.specs.Agreement.{Suits, Becomes}
use Rattle.pawk_commute.specs.Commutation.{has_sum}

pub fits_from : (z : ℤ) → in_range z ≡ true → FitsWord z
fits_from (pos n) h = let k : n < 2 ^ 63 = search (rules, tests) in (omega (arith, ints), omega (arith, ints))
fits_from (negsuc n) h = let k : n < 2 ^ 63 = search (rules, tests) in (omega (arith, ints), omega (arith, ints))

err_ok : {x : ℤ} {f : Fault} → Err f ≡ Ok x → ⊥
err_ok e = subst (λ (r : Result ℤ Fault). elim r as (λ _. Type 0) [ Ok _ ↦ ⊥ | Err _ ↦ Unit {0} ]) e tt

pub in_range_ok : (w z : ℤ) → in_range_or_fault w ≡ Ok z → (w ≡ z) × FitsWord w
in_range_ok w z h = by (in_range w) refl h
  where
    by : (b : Bool) → in_range w ≡ b → (if b then Ok w else Err Overflow) ≡ Ok z → (w ≡ z) × FitsWord w
    by true e k = (cc, fits_from w e)
    by false e k = absurd (err_ok k)

le_true : (x y : ℤ) → x ≤ℤ y → int_le x y ≡ true
le_true x y h = by (int_le x y) refl
  where
    by : (b : Bool) → int_le x y ≡ b → b ≡ true
    by true e = refl
    by false e = absurd (omega (arith, ints, h))

small : (x y : ℤ) → FitsWord x → FitsWord (x +ℤ y) → is_sum y ≡ true
small x y f g =
    let low : (pos 0 -ℤ greatest_sum) ≤ℤ y = omega (arith, ints, f.1, g.0) in
    let high : y ≤ℤ greatest_sum = omega (arith, ints, f.0, g.1) in
    ap (λ b. b && int_le y greatest_sum) (le_true (pos 0 -ℤ greatest_sum) y low) ∙ le_true y greatest_sum high

pub ok_same : {x y : ℤ} (r : Result ℤ Fault) → r ≡ Ok x → r ≡ Ok y → x ≡ y
ok_same {x} {y} r e f = let k : Ok x ≡ Ok y = sym e ∙ f in cc

fits_least : (x a b : ℤ) → FitsWord (x +ℤ a) → FitsWord (x +ℤ b) → FitsWord (x +ℤ int_min a b)
fits_least x a b f g = by (int_lt b a)
  where
    by : (c : Bool) → FitsWord (x +ℤ cond c b a)
    by true = g
    by false = f

fits_greatest : (x a b : ℤ) → FitsWord (x +ℤ a) → FitsWord (x +ℤ b) → FitsWord (x +ℤ int_max a b)
fits_greatest x a b f g = by (int_lt b a)
  where
    by : (c : Bool) → FitsWord (x +ℤ cond c a b)
    by true = f
    by false = g

-- one more amount w, where the sum is in range
pub one_more : (before now : Option Val) (mark : Mark) (a w : ℤ) → Becomes before mark now → Suits mark Adder → FitsIfOk (num_of (value_of before)) →
    num_of (value_of now) ≡ Ok a → FitsWord (a +ℤ w) →
    (has_sum (with_amount w mark) ≡ true) × Becomes before (with_amount w mark) (Some (Num (a +ℤ w)))
one_more before now blank a w h suits fits e f =
    let is : num_of (value_of before) ≡ Ok a = ap (λ o. num_of (value_of o)) (sym h) ∙ e in
    let first : FitsWord a = subst FitsIfOk is fits in (
      small a w first f,
      record { number = a; converts = is; first_fits = first; sum = refl; fits = f; least_fits = f; greatest_fits = f },
    )
one_more before now (summed total least greatest) a w h suits fits e f =
    let is : a ≡ h.number +ℤ total = ok_same (num_of (value_of now)) e (ap (λ o. num_of (value_of o)) h.sum) in
    let more : a +ℤ w ≡ h.number +ℤ (total +ℤ w) = omega (arith, ints, is) in
    let f' : FitsWord (h.number +ℤ (total +ℤ w)) = subst FitsWord more f in (
      small h.number (total +ℤ w) h.first_fits f',
      record {
        number = h.number;
        converts = h.converts;
        first_fits = h.first_fits;
        sum = ap (λ z. Some (Num z)) more;
        fits = f';
        least_fits = fits_least h.number least (total +ℤ w) h.least_fits f';
        greatest_fits = fits_greatest h.number greatest (total +ℤ w) h.greatest_fits f';
      },
    )
one_more before now (last_put v) a w h suits fits e f = absurd (cc)
one_more before now created a w h suits fits e f = absurd (cc)

-- an adder's number is in range again
pub fits_again : (before now : Option Val) (mark : Mark) → Becomes before mark now → Suits mark Adder → FitsIfOk (num_of (value_of before)) → FitsIfOk (num_of (value_of now))
fits_again before now blank h suits fits = subst (λ o. FitsIfOk (num_of (value_of o))) (sym h) fits
fits_again before now (summed total least greatest) h suits fits = subst (λ o. FitsIfOk (num_of (value_of o))) (sym h.sum) h.fits
fits_again before now (last_put v) h suits fits = absurd (cc)
fits_again before now created h suits fits = absurd (cc)
