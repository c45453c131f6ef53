use Rattle.pawk_syntax.proofs.Readings.{spells_again}
use Rattle.pawk_syntax.proofs.laws.canonical_text_spells.Goals as goal

pub returns : goal.returns
returns c = spells_again
