use Rattle.std.proofs.Common.{◌≡◌, ◌+ℤ◌, true, false, sym, ◌∙◌, rules}
use Rattle.std.specs.Int.{int_min, saturate_signed}
use Rattle.std.proofs.lemmas.Int.{to_z-of_z}
use mir.Syntax.{w128}
use mir.Val.{SFits}
use Rattle.pawk_frozen.specs.Frozens.{is_sum}
use Rattle.pawk_compose.proofs.SumLemmas.{least_kept, least_lost}
use Rattle.pawk_compose.proofs.mark.least_after.Goals as goal

pub returns-then-is_sum-clause-some : goal.returns-then-is_sum-clause-some
returns-then-is_sum-clause-some c =
    let z = c.args.first +ℤ c.args.second in
    let s = c.saturating_add.result in
    let r = c.min-sum.result in
    let s_fits : SFits w128 s = search rules in
    let r_fits : SFits w128 r = search rules in
    let left : s ≡ saturate_signed w128 z = rw (to_z-of_z w128 c.args.first c.ranges.first, to_z-of_z w128 c.args.second c.ranges.second) at c.saturating_add.ensures in
    let is : r ≡ int_min c.args.least s = rw (to_z-of_z w128 c.args.least c.ranges.least, to_z-of_z w128 s s_fits) at c.min-sum.ensures.value in
    let kept : is_sum r ≡ true = rw (to_z-of_z w128 r r_fits) at (sym c.is_sum.ensures ∙ c.if-is_sum.true) in
    rw (to_z-of_z w128 r r_fits) (least_kept c.args.least z s r c.ranges.least left is kept)

pub returns-else-is_sum-clause-none : goal.returns-else-is_sum-clause-none
returns-else-is_sum-clause-none c =
    let z = c.args.first +ℤ c.args.second in
    let s = c.saturating_add.result in
    let r = c.min-sum.result in
    let s_fits : SFits w128 s = search rules in
    let r_fits : SFits w128 r = search rules in
    let left : s ≡ saturate_signed w128 z = rw (to_z-of_z w128 c.args.first c.ranges.first, to_z-of_z w128 c.args.second c.ranges.second) at c.saturating_add.ensures in
    let is : r ≡ int_min c.args.least s = rw (to_z-of_z w128 c.args.least c.ranges.least, to_z-of_z w128 s s_fits) at c.min-sum.ensures.value in
    let lost : is_sum r ≡ false = rw (to_z-of_z w128 r r_fits) at (sym c.is_sum.ensures ∙ c.if-is_sum.false) in
    least_lost c.args.least z s r c.ranges.least left is lost
