use Rattle.std.proofs.Common.{ap, sym, ◌∙◌}
use Rattle.pawk_syntax_tree.specs.Statement.{stmt_view as tree_stmt_view}
use Rattle.pawk_code.specs.Statements.{simple}
use Rattle.pawk_resolve.specs.ScopeViews.{scope_view}
use Rattle.pawk_resolve.specs.ResolvedStatements.{resolved_plain}
use Rattle.pawk_resolve_program.proofs.Shapes.{view-Simple, view-DeleteArray}
use Rattle.pawk_resolve_program.proofs.simple.plain.Goals as goal

pub returns-in-DeleteArray : goal.returns-in-DeleteArray
returns-in-DeleteArray c =
    let s = scope_view c.args.scope.now in
    let seen = ap tree_stmt_view c.in-DeleteArray.is ∙ view-DeleteArray c.in-DeleteArray.name in
    view-Simple c.clear.result ∙ ap simple c.clear.ensures ∙ sym (ap (resolved_plain s) seen)
