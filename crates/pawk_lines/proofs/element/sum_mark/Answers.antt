use Rattle.pawk_lines.proofs.Forms.{sum_same, sum_within}
use Rattle.pawk_lines.proofs.ElementLemmas.{sum_here}
use Rattle.pawk_lines.proofs.element.sum_mark.Goals as goal

pub returns : goal.returns
returns c =
    let x = c.in_ok-total.total in
    let y = c.in_ok-least.least in
    let z = c.in_ok-greatest.greatest in
    let total = c.in_ok-total.ensures in
    let least = c.in_ok-least.ensures in
    let greatest = c.in_ok-greatest.ensures in
    sum_here c.args.bytes.now c.in-Ok.rest.now c.in_ok-total.rest.now c.in_ok-least.rest.now c.in_ok-greatest.rest.now x y z _ _ _
    (sum_same x (sum_within x total.0)) (sum_same y (sum_within y least.0)) (sum_same z (sum_within z greatest.0)) total.0 least.0 greatest.0
    c.in-Ok.ensures total.1 least.1 greatest.1
