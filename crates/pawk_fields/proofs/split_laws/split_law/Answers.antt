use Rattle.pawk_fields.proofs.LawLemmas.{split_law_lem}
use Rattle.pawk_fields.proofs.split_laws.split_law.Goals as goal

pub returns : goal.returns
returns c = split_law_lem c.args.fs.now c.args.paragraph c.args.text.now
