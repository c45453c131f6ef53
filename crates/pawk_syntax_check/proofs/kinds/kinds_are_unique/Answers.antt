use Rattle.pawk_syntax_check.proofs.Finding.{one_choice}
use Rattle.pawk_syntax_check.proofs.kinds.kinds_are_unique.Goals as goal

pub returns : goal.returns
returns c = one_choice
