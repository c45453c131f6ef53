use Rattle.pawk_resolve_law.proofs.Holding.{scalars_held, arrays_held, expressions_held}
use Rattle.pawk_resolve_law.proofs.tables.tables_hold_the_names.Goals as goal

pub returns-clause-scalars : goal.returns-clause-scalars
returns-clause-scalars c = scalars_held

pub returns-clause-arrays : goal.returns-clause-arrays
returns-clause-arrays c = arrays_held

pub returns-clause-expressions : goal.returns-clause-expressions
returns-clause-expressions c = expressions_held
