use Rattle.pawk_resolve_law.proofs.Refusals.{hidden}
use Rattle.pawk_resolve_law.proofs.refused.hidden_scalar.Goals as goal

pub returns : goal.returns
returns c s n i e h = hidden s n i e h
