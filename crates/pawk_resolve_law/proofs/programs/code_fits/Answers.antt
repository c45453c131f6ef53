use Rattle.pawk_resolve_law.proofs.CheckedPrograms.{program_fits}
use Rattle.pawk_resolve_law.proofs.programs.code_fits.Goals as goal

pub returns : goal.returns
returns x text ps k c bytes s are code = program_fits text ps k c bytes s are code
