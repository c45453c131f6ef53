use Rattle.std.proofs.Common.{rules}
use Rattle.pawk_resolve_program.proofs.simple.dropped_number.Goals as goal

pub returns-in-Change-Add-default-default : goal.returns-in-Change-Add-default-default
returns-in-Change-Add-default-default c = search rules depth 3
