use Rattle.std.proofs.Common.{map, ap, sym, subst, ◌∙◌}
use Rattle.std.proofs.Math.Logic.{∥∥₁_map}
use Rattle.pawk_syntax_grammar.specs.ExpressionReads.{AreExpressions}
use Rattle.pawk_syntax.proofs.program.Program.expressions.Goals as goal

pub returns-clause-spelled : goal.returns-clause-spelled
returns-clause-spelled c =
    let same = ap (map (λ t. t.items)) c.deref.ensures.value ∙ c.args.self.now.texts in
    ∥∥₁_map c.args.self.now.spelled (λ s. subst AreExpressions (sym same) s.1.expressions)
