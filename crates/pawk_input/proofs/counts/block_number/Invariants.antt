use Rattle.std.proofs.Common.{◌≡◌, ◌+◌, ◌≤◌}
use Rattle.pawk_input.specs.Counts.{blocks_of}
use Rattle.pawk_input.proofs.counts.block_number.Given as goal

abbrev pub invariant-loop-left : goal.invariant-loop-left
invariant-loop-left l = record {
  few : l.count + l.left ≤ l.size;
  same : l.count + blocks_of l.block l.left l.left ≡ blocks_of l.block l.size l.size;
}

abbrev pub decreases-loop-left : goal.decreases-loop-left
decreases-loop-left l = l.left
