use Rattle.std.proofs.Common.{◌≤◌, length}
use Rattle.pawk_command.proofs.ahead.AheadBlocks.read.Given as goal

abbrev pub invariant-loop : goal.invariant-loop
invariant-loop g l = record {
  within : l.count ≤ length l.buffer;
}
