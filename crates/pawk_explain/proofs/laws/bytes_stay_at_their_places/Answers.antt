use Rattle.pawk_explain.proofs.ReadingLemmas.{read_nothing, read_newline, read_file}
use Rattle.pawk_explain.proofs.laws.bytes_stay_at_their_places.Goals as goal

pub returns-clause-nothing : goal.returns-clause-nothing
returns-clause-nothing c = read_nothing

pub returns-clause-newline : goal.returns-clause-newline
returns-clause-newline c = read_newline

pub returns-clause-file : goal.returns-clause-file
returns-clause-file c = read_file
