use Rattle.std.proofs.Common.{◌≡◌, ◌+ℤ◌, false, rules}
use Rattle.std.specs.Int.{int_max, int_min}
use Rattle.std.proofs.lemmas.Int.{to_z-of_z}
use mir.Syntax.{w128}
use mir.Val.{SFits}
use Rattle.pawk_frozen.specs.Frozens.{is_sum}
use Rattle.pawk_compose.proofs.SumLemmas.{all_sums, last_lost}
use Rattle.pawk_compose.proofs.mark.composed_sums.Goals as goal

pub returns-in_err-greatest_after-clause-none : goal.returns-in_err-greatest_after-clause-none
returns-in_err-greatest_after-clause-none c =
    let one = c.args.first.now in
    let two = c.args.second.now in
    let f0 : SFits w128 one.total = search rules in
    let f2 : SFits w128 one.greatest = search rules in
    let g2 : SFits w128 two.greatest = search rules in
    let lost : is_sum (int_max one.greatest (one.total +ℤ two.greatest)) ≡ false =
    rw (to_z-of_z w128 one.greatest f2, to_z-of_z w128 one.total f0, to_z-of_z w128 two.greatest g2) at c.in_err-greatest_after.ensures.none in
    rw c.from_residual-in_err-greatest_after.ensures
    (last_lost (one.total +ℤ two.total) (int_min one.least (one.total +ℤ two.least)) (int_max one.greatest (one.total +ℤ two.greatest)) lost)

pub returns-clause-some : goal.returns-clause-some
returns-clause-some c =
    let one = c.args.first.now in
    let two = c.args.second.now in
    let f0 : SFits w128 one.total = search rules in
    let f1 : SFits w128 one.least = search rules in
    let f2 : SFits w128 one.greatest = search rules in
    let g0 : SFits w128 two.total = search rules in
    let g1 : SFits w128 two.least = search rules in
    let g2 : SFits w128 two.greatest = search rules in
    let r0 : SFits w128 c.in_ok-total_after.field-0 = search rules in
    let r1 : SFits w128 c.in_ok-least_after.field-0 = search rules in
    let r2 : SFits w128 c.in_ok-greatest_after.field-0 = search rules in
    let total = rw (to_z-of_z w128 one.total f0, to_z-of_z w128 two.total g0) at c.in_ok-total_after.ensures.some in
    let least = rw (to_z-of_z w128 one.least f1, to_z-of_z w128 one.total f0, to_z-of_z w128 two.least g1) at c.in_ok-least_after.ensures.some in
    let greatest = rw (to_z-of_z w128 one.greatest f2, to_z-of_z w128 one.total f0, to_z-of_z w128 two.greatest g2) at c.in_ok-greatest_after.ensures.some in
    rw (to_z-of_z w128 c.in_ok-total_after.field-0 r0, to_z-of_z w128 c.in_ok-least_after.field-0 r1, to_z-of_z w128 c.in_ok-greatest_after.field-0 r2)
    (all_sums c.in_ok-total_after.field-0 c.in_ok-least_after.field-0 c.in_ok-greatest_after.field-0 (one.total +ℤ two.total)
    (int_min one.least (one.total +ℤ two.least)) (int_max one.greatest (one.total +ℤ two.greatest)) total least greatest)
