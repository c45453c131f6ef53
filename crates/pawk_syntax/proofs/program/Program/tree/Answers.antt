use Rattle.std.proofs.Common.{map, sym, subst}
use Rattle.pawk_syntax_tree.specs.Item.{part}
use Rattle.pawk_syntax.specs.Spells.{IsSpelled}
use Rattle.pawk_syntax.proofs.program.Program.tree.Goals as goal

pub returns-clause-spelled : goal.returns-clause-spelled
returns-clause-spelled c = subst (λ z. ∥ IsSpelled (map part z) ∥₁) (sym c.deref.ensures.value) c.args.self.now.spelled
