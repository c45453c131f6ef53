use Rattle.pawk_syntax_tree.proofs.ProgramLaws.{read_is_derived}
use Rattle.pawk_syntax_tree.proofs.ItemLow.{read_is_low}
use Rattle.pawk_syntax_tree.proofs.program_laws.reading_is_sound.Goals as goal

pub returns-clause-derived : goal.returns-clause-derived
returns-clause-derived c ts rest xs e = read_is_derived ts rest xs e

pub returns-clause-low : goal.returns-clause-low
returns-clause-low c ts rest xs e = read_is_low ts rest xs e
