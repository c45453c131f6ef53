use Rattle.std.proofs.Common.{◌≡◌, ◌∙◌, rules, map}
use Rattle.pawk_syntax_tree.specs.Item.{texts, seen as tree_seen}
use Rattle.pawk_code.specs.StatementViews.{seen}
use Rattle.pawk_resolve.specs.ScopeViews.{globals_view}
use Rattle.pawk_resolve.specs.ResolvedStatements.{resolved_body}
use Rattle.pawk_resolve.specs.ResolvedPrograms.{kind_of, function_scope}
use Rattle.pawk_resolve_program.proofs.Choice.{kinds_of_texts}
use Rattle.pawk_resolve_program.proofs.items.function.Goals as goal

pub returns : goal.returns
returns c =
    let g = globals_view c.args.globals.now in
    let n = c.args.number in
    let ps = c.args.names.now in
    let kinds : c.in_ok-kinds.kinds.items ≡ map (λ x. kind_of (g.kinds (n, x.text.items))) ps = search rules in
    let same = kinds ∙ kinds_of_texts (λ x. kind_of (g.kinds (n, x))) ps in
    let body : seen c.in_ok-body.body.items ≡ resolved_body (function_scope g n (texts ps)) (tree_seen c.args.a.now) = search rules in
    λ i. record { kinds = same i; body = body i }
