use Rattle.pawk_resolve_law.proofs.Bodies.{one_body}
use Rattle.pawk_resolve_law.proofs.statements.code_is_unique.Goals as goal

pub returns : goal.returns
returns x s c d tables h k e = one_body s tables c d h k e
