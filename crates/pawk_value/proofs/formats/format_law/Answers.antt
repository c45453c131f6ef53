use Rattle.pawk_value.proofs.FormatLawLemmas as lemmas
use Rattle.pawk_value.proofs.formats.format_law.Goals as goal

pub returns : goal.returns
returns c = lemmas.format_law c.args.format.now
