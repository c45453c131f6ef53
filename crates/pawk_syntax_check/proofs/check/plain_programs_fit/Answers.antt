use Rattle.pawk_syntax_check.proofs.Plain.{plain_fits}
use Rattle.pawk_syntax_check.proofs.check.plain_programs_fit.Goals as goal

pub returns : goal.returns
returns c = plain_fits
