use Rattle.pawk_resolve_law.proofs.Normal.{fits}
use Rattle.pawk_resolve_law.proofs.expressions.code_fits.Goals as goal

pub returns : goal.returns
returns c s t h = fits s t h
