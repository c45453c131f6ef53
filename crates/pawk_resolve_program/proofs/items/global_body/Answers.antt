use Rattle.std.proofs.Common.{◌≡◌, List, subst}
use Rattle.std.specs.Prelude.{IfOk}
use Rattle.pawk_lex.specs.Bytes.{Text}
use Rattle.pawk_syntax_tree.specs.Item.{seen as tree_seen}
use Rattle.pawk_code.specs.StatementViews.{seen}
use Rattle.pawk_resolve.specs.ScopeViews.{globals_view}
use Rattle.pawk_resolve.specs.ResolvedStatements.{resolved_body}
use Rattle.pawk_resolve.specs.ResolvedPrograms.{function_scope}
use Rattle.pawk_resolve_program.proofs.items.global_body.Goals as goal

pub returns : goal.returns
returns c =
    let P : List Text → Type 0 = λ ps. IfOk c.body.result (λ v. seen v.items ≡ resolved_body (function_scope (globals_view c.args.globals.now) 0 ps) (tree_seen c.args.a.now)) in
    subst P c.new-parameters.ensures c.body.ensures
