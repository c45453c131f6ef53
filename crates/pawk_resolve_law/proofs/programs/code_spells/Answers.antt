use Rattle.pawk_resolve_law.proofs.CheckedPrograms.{program_spells}
use Rattle.pawk_resolve_law.proofs.programs.code_spells.Goals as goal

pub returns : goal.returns
returns x text ps k c bytes s are code = program_spells text ps k c bytes s are code
