use Rattle.std.proofs.Common.{◌≡◌, List, subst, rules}
use Rattle.std.specs.Prelude.{IfOk}
use Rattle.pawk_lex.specs.Bytes.{Text}
use Rattle.pawk_syntax_tree.specs.Item.{seen as tree_seen, texts}
use Rattle.pawk_code.specs.StatementViews.{seen}
use Rattle.pawk_resolve.specs.ScopeViews.{globals_view, table_names}
use Rattle.pawk_resolve.specs.ResolvedStatements.{resolved_body}
use Rattle.pawk_resolve.specs.ResolvedPrograms.{function_scope}
use Rattle.pawk_resolve_program.proofs.items.function_body.Goals as goal

pub returns : goal.returns
returns c =
    let P : List Text → Type 0 = λ ps. IfOk c.body.result (λ v. seen v.items ≡ resolved_body (function_scope (globals_view c.args.globals.now) c.args.number ps) (tree_seen c.args.a.now)) in
    let names : table_names c.in_ok-parameters.parameters ≡ texts c.args.names.now = search rules in
    subst P names c.body.ensures
