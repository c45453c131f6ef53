use Rattle.pawk_fields.proofs.FieldsLawLemmas.{fields_law_lem}
use Rattle.pawk_fields.proofs.blanks.fields_law.Goals as goal

pub returns : goal.returns
returns c = fields_law_lem c.args.text.now
