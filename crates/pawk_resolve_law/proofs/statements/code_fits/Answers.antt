use Rattle.pawk_resolve_law.proofs.Bodies.{fits_body}
use Rattle.pawk_resolve_law.proofs.statements.code_fits.Goals as goal

pub returns : goal.returns
returns c s xs h = fits_body s xs h
