use Rattle.pawk_table_merge.proofs.LaterLemmas.{tell_later}
use Rattle.pawk_table_merge.proofs.law.sections_tell_later.Goals as goal

pub returns : goal.returns
returns c = λ p blind rs nr later name sections chunks told.
    tell_later (c.records_may_be_numbered_from_none.ensures p) p blind rs nr later name sections chunks told
