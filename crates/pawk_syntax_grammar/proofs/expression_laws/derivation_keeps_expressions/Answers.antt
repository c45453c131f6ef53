use Rattle.pawk_syntax_grammar.proofs.DerivedPrograms.{derived_program}
use Rattle.pawk_syntax_grammar.proofs.expression_laws.derivation_keeps_expressions.Goals as goal

pub returns : goal.returns
returns c = derived_program
