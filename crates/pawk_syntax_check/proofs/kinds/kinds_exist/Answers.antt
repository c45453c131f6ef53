use Rattle.pawk_syntax_check.proofs.Choice.{one_for_each}
use Rattle.pawk_syntax_check.proofs.kinds.kinds_exist.Goals as goal

pub returns : goal.returns
returns c = one_for_each
