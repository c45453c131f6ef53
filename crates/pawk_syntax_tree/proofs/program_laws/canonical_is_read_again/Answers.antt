use Rattle.pawk_syntax_tree.proofs.ProgramLaws.{derived_is_read}
use Rattle.pawk_syntax_tree.proofs.program_laws.canonical_is_read_again.Goals as goal

pub returns : goal.returns
returns c ts xs d low = derived_is_read ts xs d low
