use Rattle.pawk_fields.proofs.SplitLemmas.{fields_by_blanks}
use Rattle.pawk_fields.proofs.field_walk.blanks_law.Goals as goal

pub returns : goal.returns
returns c = fields_by_blanks c.args.text.now
