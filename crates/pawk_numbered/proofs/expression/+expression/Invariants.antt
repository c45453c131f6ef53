use Rattle.std.proofs.Common.{◌≡◌, drop}
use Rattle.pawk_code.specs.Expressions.{exprs, arguments}
use Rattle.pawk_code.specs.ExpressionViews.{views, argument_views}
use Rattle.pawk_numbered.specs.Mentions.{in_expressions, in_arguments}
use Rattle.pawk_numbered.proofs.expression.+expression.Given as goal

abbrev pub invariant-in_expressions-loop-e : goal.invariant-in_expressions-loop-e
invariant-in_expressions-loop-e l = in_expressions (exprs (views (drop l.e-index l.es))) ≡ in_expressions (exprs (views l.es))

abbrev pub invariant-in_arguments-loop-value : goal.invariant-in_arguments-loop-value
invariant-in_arguments-loop-value l =
    in_arguments (arguments (argument_views (drop l.value-index l.values))) ≡ in_arguments (arguments (argument_views l.values))
