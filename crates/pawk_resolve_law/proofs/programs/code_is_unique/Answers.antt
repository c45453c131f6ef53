use Rattle.pawk_resolve_law.proofs.CheckedPrograms.{program_is}
use Rattle.pawk_resolve_law.proofs.programs.code_is_unique.Goals as goal

pub returns : goal.returns
returns x text ps k c bytes s are fit e = program_is text ps k c bytes s are fit e
