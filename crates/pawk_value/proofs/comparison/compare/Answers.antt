use Rattle.std.proofs.Common.{rules}
use Rattle.pawk_value.proofs.comparison.compare.Goals as goal

pub returns : goal.returns
returns c = search rules depth 3
