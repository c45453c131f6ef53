use Rattle.std.proofs.Common.{rules}
use Rattle.pawk_admit.proofs.decision.reason_of.Goals as goal

pub returns-in-Touch-AddAndLook-default : goal.returns-in-Touch-AddAndLook-default
returns-in-Touch-AddAndLook-default c = search rules depth 3
