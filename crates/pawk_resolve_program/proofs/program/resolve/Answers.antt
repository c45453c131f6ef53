use Rattle.std.proofs.Common.{◌≡◌, map, rules, sym, ap, subst, ◌∙◌}
use Rattle.std.specs.Prelude.{IfOk}
use Rattle.pawk_syntax_tree.specs.Item.{part}
use Rattle.pawk_syntax_check.specs.KindViews.{kinds_in}
use Rattle.pawk_syntax_grammar.specs.Expressions.{eres_of_program}
use Rattle.pawk_code.specs.ProgramViews.{code_view}
use Rattle.pawk_resolve.specs.ScopeViews.{globals_view}
use Rattle.pawk_resolve.specs.ResolvedPrograms.{globals_of, resolved_items}
use Rattle.pawk_resolve_program.specs.Codes.{IsCodeOf}
use Rattle.pawk_resolve_program.proofs.Choice.{codes_are}
use Rattle.pawk_resolve_program.proofs.program.resolve.Goals as goal

pub returns : goal.returns
returns c =
    let ps = map part c.tree-items.result.now in
    let g = c.in_ok-globals.globals in
    let xs = map (λ x. x.items) c.expressions.result.now in
    let whole : IfOk c.code.result (λ d. code_view d ≡ resolved_items (globals_view g) ps) = search rules in
    let names : globals_view g ≡ globals_of (kinds_in g.kinds) xs ps = search rules in
    let texts : xs ≡ eres_of_program ps = c.expressions.ensures.texts ∙ ap eres_of_program (sym c.tree-items.ensures.items) in
    subst (λ qs. IfOk c.code.result (λ d. IsCodeOf qs (code_view d))) c.tree-items.ensures.items
    (codes_are ps c.code.result (globals_view g) (kinds_in g.kinds) xs whole names texts c.in_ok-globals.ensures.kinds)
