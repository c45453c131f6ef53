use Rattle.pawk_record.proofs.ViewLemmas.{new_values}
use Rattle.pawk_record.proofs.record.Record.new.Goals as goal

pub returns-clause-fields : goal.returns-clause-fields
returns-clause-fields c = new_values _ _ _ c.new-3.result c.new.ensures.ranges
