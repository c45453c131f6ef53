use Rattle.std.proofs.Common.{◌≤◌, ◌-◌, length}
use Rattle.pawk_input.proofs.passing.free_length.Given as goal

abbrev pub invariant-loop-look : goal.invariant-loop-look
invariant-loop-look l = 1 ≤ l.look

abbrev pub decreases-loop-look : goal.decreases-loop-look
decreases-loop-look l = length l.text - l.look
