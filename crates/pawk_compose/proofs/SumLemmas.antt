-- Sums that a table keeps, where one that is too great is left at the last number of its type.
use Rattle.std.proofs.Common.{◌≡◌, ⊎_elim, ℕ, ℤ, pos, negsuc, ◌-ℤ◌, ◌<ℤ◌, ◌≤ℤ◌, ◌^◌, ◌-◌, min, Bool, true, false, Some, refl, sym, ◌∙◌, ap, arith, rules, tests}
use Rattle.std.specs.Prelude.{◌&&◌}
use Rattle.std.proofs.lemmas.Bool.{cases_lt}
use Rattle.std.proofs.lemmas.Int.{ints, clamps}
use Rattle.std.specs.Int.{int_max, int_min, saturate_signed}
use mir.Syntax.{w128}
use mir.Val.{SFits}
use Rattle.pawk_frozen.specs.Frozens.{is_sum}
use Rattle.pawk_frozen.specs.Marks.{summed}

abbrev last : ℕ
last = 2 ^ 127 - 1

abbrev IsWithin : ℤ → Type 0
IsWithin z = ((pos 0 -ℤ pos (2 ^ 64)) ≤ℤ z) × (z ≤ℤ pos (2 ^ 64))

within : (z : ℤ) → is_sum z ≡ true → IsWithin z
within z h = search (rules, tests)

lost : (z : ℤ) → ¬ IsWithin z → is_sum z ≡ false
lost z h = by (is_sum z) refl where
  by : (b : Bool) → is_sum z ≡ b → is_sum z ≡ false
  by true e = absurd (h (within z e))
  by false e = e

-- what is left of a sum
data Left (z : ℤ) : Type 0 where
  same : saturate_signed w128 z ≡ z → Left z
  above : saturate_signed w128 z ≡ pos last → pos last <ℤ z → Left z
  below : saturate_signed w128 z ≡ negsuc last → z <ℤ negsuc last → Left z

left : (z : ℤ) → Left z
left (pos n) =
    ⊎_elim (λ lt. same (let e : min n last ≡ n = omega arith in ap pos e)) (λ le. above (let e : min n last ≡ last = omega arith in ap pos e) (omega (arith, ints)))
    (cases_lt n (2 ^ 127))
left (negsuc n) =
    ⊎_elim (λ lt. same (let e : min n last ≡ n = omega arith in ap negsuc e)) (λ le. below (let e : min n last ≡ last = omega arith in ap negsuc e) (omega (arith, ints)))
    (cases_lt n (2 ^ 127))

-- a least or a greatest sum, which is kept or not as the true one is, and then is that
abbrev IsAsGood : ℤ → ℤ → Type 0
IsAsGood r z = (is_sum r ≡ is_sum z) × (is_sum r ≡ true → r ≡ z)

equal_is : (r z : ℤ) → r ≡ z → IsAsGood r z
equal_is r z e = (ap is_sum e, λ h. e)

both_lost : (r z : ℤ) → is_sum r ≡ false → is_sum z ≡ false → IsAsGood r z
both_lost r z g h = (g ∙ sym h, λ k. let bad : true ≡ false = sym k ∙ g in cc)

least_as_good : (b z : ℤ) → SFits w128 b → IsAsGood (int_min b (saturate_signed w128 z)) (int_min b z)
least_as_good b z fits = by (left z) where
  by : Left z → IsAsGood (int_min b (saturate_signed w128 z)) (int_min b z)
  by (same e) = equal_is (int_min b (saturate_signed w128 z)) (int_min b z) (ap (int_min b) e)
  by (above e h) =
      let there : int_min b (pos last) ≡ int_min b z = omega (arith, ints, clamps) in
      equal_is (int_min b (saturate_signed w128 z)) (int_min b z) (ap (int_min b) e ∙ there)
  by (below e h) =
      let there : int_min b (negsuc last) ≡ negsuc last = omega (arith, ints, clamps) in
      both_lost (int_min b (saturate_signed w128 z)) (int_min b z)
      (ap is_sum (ap (int_min b) e ∙ there))
      (lost (int_min b z) (λ k. let low = k.0 in absurd (omega (arith, ints, clamps))))

greatest_as_good : (b z : ℤ) → SFits w128 b → IsAsGood (int_max b (saturate_signed w128 z)) (int_max b z)
greatest_as_good b z fits = by (left z) where
  by : Left z → IsAsGood (int_max b (saturate_signed w128 z)) (int_max b z)
  by (same e) = equal_is (int_max b (saturate_signed w128 z)) (int_max b z) (ap (int_max b) e)
  by (above e h) =
      let there : int_max b (pos last) ≡ pos last = omega (arith, ints, clamps) in
      both_lost (int_max b (saturate_signed w128 z)) (int_max b z)
      (ap is_sum (ap (int_max b) e ∙ there))
      (lost (int_max b z) (λ k. let high = k.1 in absurd (omega (arith, ints, clamps))))
  by (below e h) =
      let there : int_max b (negsuc last) ≡ int_max b z = omega (arith, ints, clamps) in
      equal_is (int_max b (saturate_signed w128 z)) (int_max b z) (ap (int_max b) e ∙ there)

pub least_kept : (b z s r : ℤ) → SFits w128 b → s ≡ saturate_signed w128 z → r ≡ int_min b s → is_sum r ≡ true →
    (r ≡ int_min b z) × (is_sum (int_min b z) ≡ true)
least_kept b z s r fits e f h =
    let is = f ∙ ap (int_min b) e in
    let good = least_as_good b z fits in
    let kept = ap is_sum (sym is) ∙ h in
    (is ∙ good.1 kept, sym good.0 ∙ kept)

pub least_lost : (b z s r : ℤ) → SFits w128 b → s ≡ saturate_signed w128 z → r ≡ int_min b s → is_sum r ≡ false → is_sum (int_min b z) ≡ false
least_lost b z s r fits e f h = sym (least_as_good b z fits).0 ∙ ap is_sum (sym (f ∙ ap (int_min b) e)) ∙ h

pub greatest_kept : (b z s r : ℤ) → SFits w128 b → s ≡ saturate_signed w128 z → r ≡ int_max b s → is_sum r ≡ true →
    (r ≡ int_max b z) × (is_sum (int_max b z) ≡ true)
greatest_kept b z s r fits e f h =
    let is = f ∙ ap (int_max b) e in
    let good = greatest_as_good b z fits in
    let kept = ap is_sum (sym is) ∙ h in
    (is ∙ good.1 kept, sym good.0 ∙ kept)

pub greatest_lost : (b z s r : ℤ) → SFits w128 b → s ≡ saturate_signed w128 z → r ≡ int_max b s → is_sum r ≡ false → is_sum (int_max b z) ≡ false
greatest_lost b z s r fits e f h = sym (greatest_as_good b z fits).0 ∙ ap is_sum (sym (f ∙ ap (int_max b) e)) ∙ h

-- three sums
pub all_sums : (t l g x y z : ℤ) → (t ≡ x) × (is_sum x ≡ true) → (l ≡ y) × (is_sum y ≡ true) → (g ≡ z) × (is_sum z ≡ true) →
    (Some (summed x y z) ≡ Some (summed t l g)) × ((is_sum x && is_sum y && is_sum z) ≡ true)
all_sums t l g x y z h k m = (
  ap (λ n. Some (summed n y z)) (sym h.0) ∙ ap (λ n. Some (summed t n z)) (sym k.0) ∙ ap (λ n. Some (summed t l n)) (sym m.0),
  ap (λ b. b && is_sum y && is_sum z) h.1 ∙ ap (λ b. b && is_sum z) k.1 ∙ m.1,
)

pub last_lost : (x y z : ℤ) → is_sum z ≡ false → (is_sum x && is_sum y && is_sum z) ≡ false
last_lost x y z h = and_false (is_sum x && is_sum y) (is_sum z) h where
  and_false : (a b : Bool) → b ≡ false → (a && b) ≡ false
  and_false true b e = e
  and_false false b e = refl
