use Rattle.pawk_value.proofs.ComparisonLemmas as lemmas
use Rattle.pawk_value.proofs.comparison.text_order_law.Goals as goal

pub returns : goal.returns
returns c = lemmas.text_order_law c.args.left.now c.args.right.now
