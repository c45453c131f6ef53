use Rattle.pawk_value.proofs.NumeralLemmas as lemmas
use Rattle.pawk_value.proofs.numeral.numeral_law.Goals as goal

pub returns : goal.returns
returns c = lemmas.numeral_law c.args.text.now
