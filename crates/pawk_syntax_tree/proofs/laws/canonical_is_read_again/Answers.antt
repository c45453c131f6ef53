use Rattle.pawk_syntax_tree.proofs.ExprLaws.{derived_is_read}
use Rattle.pawk_syntax_tree.proofs.laws.canonical_is_read_again.Goals as goal

pub returns : goal.returns
returns c compares level ts others rest a d low = derived_is_read compares level ts others rest a d low
