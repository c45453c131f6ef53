use Rattle.pawk_tables.proofs.FileLemmas.{body_from_turn, body_in_turn, body_same, file_same}
use Rattle.pawk_tables.proofs.laws.files_are_read_again.Goals as goal

pub returns-clause-file : goal.returns-clause-file
returns-clause-file c = file_same

pub returns-clause-body : goal.returns-clause-body
returns-clause-body c = body_same

pub returns-clause-in_turn : goal.returns-clause-in_turn
returns-clause-in_turn c = body_in_turn

pub returns-clause-whole : goal.returns-clause-whole
returns-clause-whole c = body_from_turn
