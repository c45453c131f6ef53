use Rattle.pawk_resolve_program.proofs.First.{first_slots}
use Rattle.pawk_resolve_program.proofs.laws.first_slots_are_fixed.Goals as goal

pub returns : goal.returns
returns c = first_slots
