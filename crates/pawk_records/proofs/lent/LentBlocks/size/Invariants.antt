use Rattle.std.proofs.Common.{◌≡◌, ◌+◌, length}
use Rattle.pawk_records.specs.Blocks.{joined}
use Rattle.pawk_records.proofs.lent.LentBlocks.size.Given as goal

abbrev pub invariant-loop-bytes : goal.invariant-loop-bytes
invariant-loop-bytes l = l.size + length (joined l.rest) ≡ length (joined l.fn.self)

abbrev pub decreases-loop-bytes : goal.decreases-loop-bytes
decreases-loop-bytes l = length l.rest
