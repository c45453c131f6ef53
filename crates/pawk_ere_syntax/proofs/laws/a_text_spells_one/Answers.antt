use Rattle.pawk_ere_syntax.proofs.Progress.{spells_one}
use Rattle.pawk_ere_syntax.proofs.laws.a_text_spells_one.Goals as goal

pub returns : goal.returns
returns c = spells_one
