use Rattle.pawk_resolve_law.proofs.Spelling.{spells}
use Rattle.pawk_resolve_law.proofs.expressions.code_spells.Goals as goal

pub returns : goal.returns
returns c s t h = spells s t h
