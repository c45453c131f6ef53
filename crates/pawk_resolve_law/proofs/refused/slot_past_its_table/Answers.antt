use Rattle.pawk_resolve_law.proofs.Refusals.{past}
use Rattle.pawk_resolve_law.proofs.refused.slot_past_its_table.Goals as goal

pub returns : goal.returns
returns c s n le h = past s n le h
