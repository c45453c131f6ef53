use Rattle.std.proofs.Common.{◌≡◌, List, subst}
use Rattle.std.specs.Prelude.{IfOk}
use Rattle.pawk_lex.specs.Bytes.{Text}
use Rattle.pawk_syntax_tree.specs.Tree.{view as tree_view}
use Rattle.pawk_code.specs.ExpressionViews.{view}
use Rattle.pawk_resolve.specs.ScopeViews.{globals_view}
use Rattle.pawk_resolve.specs.Resolved.{resolved}
use Rattle.pawk_resolve.specs.ResolvedPrograms.{function_scope}
use Rattle.pawk_resolve_program.proofs.items.global_expression.Goals as goal

pub returns : goal.returns
returns c =
    let P : List Text → Type 0 = λ ps. IfOk c.expression.result (λ x. view x ≡ resolved (function_scope (globals_view c.args.globals.now) 0 ps) (tree_view c.args.e.now)) in
    subst P c.new-parameters.ensures c.expression.ensures
