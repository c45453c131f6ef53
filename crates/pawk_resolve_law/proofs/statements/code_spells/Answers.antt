use Rattle.pawk_resolve_law.proofs.Bodies.{spells_body}
use Rattle.pawk_resolve_law.proofs.statements.code_spells.Goals as goal

pub returns : goal.returns
returns c s xs h = spells_body s xs h
