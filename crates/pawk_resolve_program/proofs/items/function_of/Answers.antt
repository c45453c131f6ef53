use Rattle.std.proofs.Common.{[], ◌∷◌, ap, ◌∙◌, sym}
use Rattle.pawk_syntax_tree.specs.Item.{part}
use Rattle.pawk_resolve.specs.ScopeViews.{globals_view}
use Rattle.pawk_resolve.specs.ResolvedPrograms.{function_at}
use Rattle.pawk_resolve_program.proofs.items.function_of.Goals as goal

pub returns-in_ok-function-in-Function : goal.returns-in_ok-function-in-Function
returns-in_ok-function-in-Function c =
    let g = globals_view c.args.globals.now in
    let n = c.args.number in
    let arm = c.in-Function in
    let here = rw (c.deref.ensures.value, c.deref-in-Function.ensures.value) at c.in_ok-function-in-Function.ensures in
    ap (λ f. f ∷ []) here ∙ sym (ap (λ x. function_at g n (part x)) arm.is)
