use Rattle.pawk_syntax_grammar.proofs.CanonicalTokens.{of_program}
use Rattle.pawk_syntax_grammar.proofs.expression_laws.canonical_keeps_expressions.Goals as goal

pub returns : goal.returns
returns c = of_program
