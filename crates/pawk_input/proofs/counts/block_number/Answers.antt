use Rattle.std.proofs.Common.{◌≡◌, ◌-◌, arith}
use Rattle.pawk_input.proofs.CountLemmas.{blocks_step}
use Rattle.pawk_input.proofs.counts.block_number.Goals as goal

pub loop-left-preserved : goal.loop-left-preserved
loop-left-preserved c =
    let n = c.loop-left.left in
    let is : c.saturating_sub-left.result ≡ n - c.args.block = c.saturating_sub-left.ensures in
    let step = blocks_step c.args.block c.requires n c.loop-left-test.true in
    record {
      few = omega (arith, is, c.loop-left.invariant.few);
      same = rw is (omega (arith, step, c.loop-left.invariant.same));
    }
