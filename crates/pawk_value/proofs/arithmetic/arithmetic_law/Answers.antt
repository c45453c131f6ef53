use Rattle.pawk_value.proofs.ArithmeticLawLemmas as lemmas
use Rattle.pawk_value.proofs.arithmetic.arithmetic_law.Goals as goal

pub returns : goal.returns
returns c = lemmas.arithmetic_law c.args.left c.args.right
