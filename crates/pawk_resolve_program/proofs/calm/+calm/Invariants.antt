use Rattle.std.proofs.Common.{◌≡◌, drop}
use Rattle.pawk_code.specs.Calm.{are_calm}
use Rattle.pawk_code.specs.Expressions.{exprs}
use Rattle.pawk_code.specs.ExpressionViews.{views}
use Rattle.pawk_resolve_program.proofs.calm.+calm.Given as goal

abbrev pub invariant-are_calm-loop-e : goal.invariant-are_calm-loop-e
invariant-are_calm-loop-e l = are_calm (exprs (views (drop l.e-index l.es))) ≡ are_calm (exprs (views l.es))
