use Rattle.std.proofs.Common.{rules}
use Rattle.pawk_admit.proofs.decision.clashes.Goals as goal

pub returns-else-marks-4 : goal.returns-else-marks-4
returns-else-marks-4 c = search rules depth 3
