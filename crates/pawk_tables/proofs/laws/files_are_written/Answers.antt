use Rattle.pawk_tables.proofs.FileLemmas.{body_is_written, one_more_spells}
use Rattle.pawk_tables.proofs.laws.files_are_written.Goals as goal

pub returns-clause-sections : goal.returns-clause-sections
returns-clause-sections c = one_more_spells

pub returns-clause-body : goal.returns-clause-body
returns-clause-body c = body_is_written
