use Rattle.std.proofs.Common.{◌+◌, ap, arith, ◌∙◌}
use Rattle.pawk_fields.proofs.EndLanes.{far, near}
use Rattle.pawk_fields.proofs.ends.word_end.Goals as goal

pub returns-then-run-lt-LANES : goal.returns-then-run-lt-LANES
returns-then-run-lt-LANES c =
    let at = c.loop-place.place in
    ap (λ n. at + n) (near c.args.text.now at c.lane_run-run.result (omega arith) c.lane_run-run.ensures c.if-run-lt-LANES.true) ∙ c.loop-place.invariant.same

pub loop-place-preserved : goal.loop-place-preserved
loop-place-preserved c =
    let on = far c.args.text.now c.loop-place.place c.lane_run-run.result (omega arith) c.lane_run-run.ensures (omega arith) in
    record { within = omega arith; same = omega (arith, on, c.loop-place.invariant.same) }
