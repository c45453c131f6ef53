use Rattle.std.proofs.Common.{ap, sym, ◌∙◌}
use Rattle.pawk_code.specs.Expressions.{exprs, join}
use Rattle.pawk_code.specs.ExpressionViews.{textual_view, views}
use Rattle.pawk_code.proofs.Rows.{view-Join}
use Rattle.pawk_runtime.proofs.append.operands_of_text.Goals as goal

pub returns-in-Join : goal.returns-in-Join
returns-in-Join c =
    ap textual_view c.in-Join.is ∙ view-Join c.in-Join.es ∙ ap (λ xs. join (exprs (views xs))) (sym c.as_slice.ensures.value)
