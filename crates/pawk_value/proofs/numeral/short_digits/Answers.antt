use Rattle.std.proofs.Common.{◌≡◌, ◌^◌, ◌≤◌, length, ap, ◌∙◌, arith}
use Rattle.std.proofs.lemmas.List.{take_all}
use Rattle.std.proofs.lemmas.List.Sums.{prefix_len_is}
use Rattle.std.proofs.Math.Nat.{pow-le-pow_right}
use Rattle.pawk_value.specs.Bytes.{is_digit}
use Rattle.pawk_value.specs.Numeral.{digits_value}
use Rattle.pawk_value.proofs.numeral.short_digits.Goals as goal

pub overflow_mul-size : goal.overflow_mul-size
overflow_mul-size c =
    let most : 10 ^ c.loop-b.b-index ≤ 10 ^ 17 = pow-le-pow_right (omega arith) {j = 17} (omega arith) in
    omega (arith, c.loop-b.invariant.1.1)

pub overflow_add-size : goal.overflow_add-size
overflow_add-size c =
    let most : 10 ^ c.loop-b.b-index ≤ 10 ^ 17 = pow-le-pow_right (omega arith) {j = 17} (omega arith) in
    omega (arith, c.loop-b.invariant.1.1)

pub returns-in-Ok-clause-digits : goal.returns-in-Ok-clause-digits
returns-in-Ok-clause-digits c =
    prefix_len_is is_digit c.args.text.now (length c.args.text.now) 0 (omega arith) (λ k h. c.loop-b.invariant.0 k (omega arith)) (λ h. absurd (omega arith))

pub returns-in-Ok-clause-bound : goal.returns-in-Ok-clause-bound
returns-in-Ok-clause-bound c =
    let most : 10 ^ c.loop-b.b-index ≤ 10 ^ 18 = pow-le-pow_right (omega arith) {j = 18} (omega arith) in
    let whole : c.loop-b.size ≡ digits_value c.args.text.now = c.loop-b.invariant.1.0 ∙ ap digits_value (take_all c.loop-b.b-index c.args.text.now (omega arith)) in
    omega (arith, c.loop-b.invariant.1.1, whole)
