use Rattle.pawk_fields.proofs.FieldLemmas.{fields_law_lem}
use Rattle.pawk_fields.proofs.search_laws.fields_by_law.Goals as goal

pub returns : goal.returns
returns c = fields_law_lem
