use Rattle.std.proofs.Common.{arith}
use Rattle.pawk_fields.proofs.FieldsOfLemmas.{result_fields}
use Rattle.pawk_fields.proofs.fields_by.append_alone.Goals as goal

pub returns-clause-added : goal.returns-clause-added
returns-clause-added c = result_fields _ c.args.fs.now c.args.paragraph c.args.text.now _ _ (omega arith) c.append_between.ensures.added
