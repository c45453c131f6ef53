use Rattle.std.proofs.Common.{◌+◌, ap, arith}
use Rattle.pawk_fields.proofs.EndLanes.{last, within}
use Rattle.pawk_fields.proofs.ends.late_end.Goals as goal

pub overflow_add-result-2 : goal.overflow_add-result-2
overflow_add-result-2 c =
    let run = last c.args.text.now c.args.from c.lane_run.result (omega arith) (omega arith) c.lane_run.ensures in
    let most = within c.args.text.now c.args.from (omega arith) in
    record { fits = omega (arith, run, most) }

pub returns : goal.returns
returns c = ap (λ n. c.args.from + n) (last c.args.text.now c.args.from c.lane_run.result (omega arith) (omega arith) c.lane_run.ensures)
