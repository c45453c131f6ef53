use Rattle.pawk_parts.proofs.FrontLemmas.{same_table, table_in_front}
use Rattle.pawk_parts.proofs.laws.tables_are_read_again.Goals as goal

pub returns-clause-front : goal.returns-clause-front
returns-clause-front c scalars arrays ls table next rest h is_line other = table_in_front scalars arrays ls table next rest h is_line other

pub returns-clause-one : goal.returns-clause-one
returns-clause-one c scalars arrays bytes table other count size h g =
    let same = same_table scalars arrays bytes table other count size h g in
    (same.noted, same.length)
