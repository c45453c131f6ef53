use Rattle.std.proofs.Common.{rules}
use Rattle.pawk_frozen.proofs.mark.next_sums.Goals as goal

pub returns-clause-sums : goal.returns-clause-sums
returns-clause-sums c = search rules depth 3
