use Rattle.std.proofs.Common.{◌≡◌, ◌≤◌, w64, arith, rules, sym, ◌∙◌, ap, pos, Ok}
use mir.Val.{SFits, to_z}
use Rattle.std.proofs.lemmas.Int.{ints, to_z-of_z}
use Rattle.std.specs.Int.RustNames.{unsigned_abs}
use Rattle.pawk_value.proofs.ArithmeticLemmas as lemmas
use Rattle.pawk_value.proofs.arithmetic.great_power.Goals as goal
use Rattle.pawk_value.proofs.arithmetic.great_power.Goals.{else-base-lt0-via-then-base-lt0+else-exponent-eq1, else-base-lt0-via-else-base-lt0}

pub returns-then-size-gt1 : goal.returns-then-size-gt1
returns-then-size-gt1 c =
    let fits : SFits w64 c.args.base = search rules in
    let size = simp to_z-of_z at c.unsigned_abs-size.ensures.value in
    sym (lemmas.great_power c.args.base c.args.exponent (omega arith) c.requires)

pub returns-then-exponent-eq1 : goal.returns-then-exponent-eq1
returns-then-exponent-eq1 c =
    let fits : SFits w64 c.args.base = search rules in
    let size = simp to_z-of_z at c.unsigned_abs-size.ensures.value in
    sym (lemmas.odd_power c.args.base c.args.exponent (omega arith) (omega (arith, ints)) c.if-exponent-eq1.true)

pub returns-else-base-lt0 : goal.returns-else-base-lt0
returns-else-base-lt0 c =
    let fits : SFits w64 c.args.base = search rules in
    let size = simp to_z-of_z at c.unsigned_abs-size.ensures.value in
    let small : unsigned_abs c.args.base ≤ 1 = omega arith in
    let number : to_z w64 c.unsigned_abs-size.result ≡ pos (unsigned_abs c.args.base) = omega (arith, ints) in
    elim c.else-base-lt0.branch [
      | else-base-lt0-via-then-base-lt0+else-exponent-eq1 w ↦ ap Ok number ∙ sym (lemmas.even_power c.args.base c.args.exponent small (omega (arith, ints)) w.if-exponent-eq1.false)
      | else-base-lt0-via-else-base-lt0 w ↦ ap Ok number ∙ sym (lemmas.small_power c.args.base c.args.exponent small (omega (arith, ints)) (omega arith))
    ]
