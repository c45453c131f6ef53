use Rattle.pawk_syntax_grammar.proofs.ProgramBrackets.{few_program}
use Rattle.pawk_syntax_grammar.proofs.laws.canonical_opens_few.Goals as goal

pub returns : goal.returns
returns c = few_program
