use Rattle.std.proofs.Common.{◌≡◌, ◌++◌, drop}
use Rattle.pawk_code.specs.Expressions.{exprs, arguments}
use Rattle.pawk_code.specs.ExpressionViews.{views, argument_views}
use Rattle.pawk_admit.specs.Occurrences.{of_expressions, of_arguments}
use Rattle.pawk_admit.proofs.expression.+expression.Given as goal

abbrev pub invariant-expressions-loop-e : goal.invariant-expressions-loop-e
invariant-expressions-loop-e l =
    l.list.items ++ of_expressions (exprs (views (drop l.e-index l.es)))
    ≡ l.fn.list.items ++ of_expressions (exprs (views l.es))

abbrev pub invariant-arguments-loop-value : goal.invariant-arguments-loop-value
invariant-arguments-loop-value l =
    l.list.items ++ of_arguments (arguments (argument_views (drop l.value-index l.values)))
    ≡ l.fn.list.items ++ of_arguments (arguments (argument_views l.values))
