use Rattle.std.proofs.Common.{rules}
use Rattle.pawk_admit.proofs.statement.leave.Goals as goal

pub returns-in_ok-push-in-NextFile : goal.returns-in_ok-push-in-NextFile
returns-in_ok-push-in-NextFile c = search rules depth 3
