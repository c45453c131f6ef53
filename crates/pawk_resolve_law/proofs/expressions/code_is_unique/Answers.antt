use Rattle.pawk_resolve_law.proofs.Again.{one_code}
use Rattle.pawk_resolve_law.proofs.expressions.code_is_unique.Goals as goal

pub returns : goal.returns
returns x s c d tables h k e = one_code s tables c d h k e
