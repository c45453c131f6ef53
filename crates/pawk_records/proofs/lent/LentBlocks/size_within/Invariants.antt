use Rattle.std.proofs.Common.{◌≡◌, ◌+◌, ◌≤◌, length}
use Rattle.pawk_records.specs.Blocks.{joined}
use Rattle.pawk_records.proofs.lent.LentBlocks.size_within.Given as goal

abbrev pub invariant-loop-bytes : goal.invariant-loop-bytes
invariant-loop-bytes l = record {
  whole : l.size + length (joined l.rest) ≡ length (joined l.fn.self);
  few : l.size ≤ l.most;
}

abbrev pub decreases-loop-bytes : goal.decreases-loop-bytes
decreases-loop-bytes l = length l.rest
