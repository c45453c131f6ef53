use Rattle.std.proofs.Common.{◌≡◌, map, take}
use Rattle.pawk_code.specs.ExpressionViews.{views, argument_views}
use Rattle.pawk_resolve.specs.ScopeViews.{scope_view}
use Rattle.pawk_resolve_program.proofs.Walks.{code_of, passed}
use Rattle.pawk_resolve_program.proofs.expression.+expression.Given as goal

abbrev pub invariant-list-loop-tree : goal.invariant-list-loop-tree
invariant-list-loop-tree l = views l.codes.items ≡ map (code_of (scope_view l.scope)) (take l.tree-index l.list)

abbrev pub invariant-arguments-loop-tree : goal.invariant-arguments-loop-tree
invariant-arguments-loop-tree l = argument_views l.codes.items ≡ map (passed (scope_view l.scope)) (take l.tree-index l.list)
