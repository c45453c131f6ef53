use Rattle.std.proofs.Common.{length}
use Rattle.pawk_runtime.proofs.run.give_back_frame.Given as goal

abbrev pub decreases-loop-parameter : goal.decreases-loop-parameter
decreases-loop-parameter l = length l.frame.items
