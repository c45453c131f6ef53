use Rattle.std.proofs.Common.{arith}
use Rattle.pawk_input.proofs.PlacedLemmas.{one_counted}
use Rattle.pawk_input.proofs.plan.count_on.Goals as goal

pub loop-chunk-preserved : goal.loop-chunk-preserved
loop-chunk-preserved c = one_counted c.args.nr c.args.fnr c.loop-chunk.chunk-index c.loop-chunk.chunks c.args.chunks.now _ (omega arith) c.loop-chunk.invariant
