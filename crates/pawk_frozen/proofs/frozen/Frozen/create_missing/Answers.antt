use Rattle.std.proofs.Common.{rules}
use Rattle.pawk_frozen.proofs.frozen.Frozen.create_missing.Goals as goal

pub returns-in-Fixed : goal.returns-in-Fixed
returns-in-Fixed c = search rules depth 3
