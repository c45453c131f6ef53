use Rattle.std.proofs.Common.{◌≡◌, map, true, false, sym, ◌∙◌, ap}
use Rattle.std.specs.Option.{is_none}
use Rattle.pawk_syntax_tree.specs.Item.{part}
use Rattle.pawk_syntax_check.specs.FunctionViews.{function_under}
use Rattle.pawk_syntax_check.proofs.Mentions.{then_fit, fit_then, both_of}
use Rattle.pawk_syntax_check.proofs.check.check.Goals as goal

pub returns-in-None-clause-fit : goal.returns-in-None-clause-fit
returns-in-None-clause-fit c =
    let functions = function_under c.in_ok-functions.functions in
    let ps = map part c.args.items.now in
    let none = both_of (is_none c.in_ok-inner.inner) (is_none c.in_ok-kinds.kinds) (sym c.first_of.ensures ∙ ap is_none c.in-None.is) in
    then_fit functions ps c.in_ok-functions.ensures (sym c.in_ok-inner.ensures ∙ none.0) (c.in_ok-kinds.ensures.fit none.1)

pub returns-clause-unfit : goal.returns-clause-unfit
returns-clause-unfit c = λ _ f.
    let functions = function_under c.in_ok-functions.functions in
    let ps = map part c.args.items.now in
    let inner : is_none c.in_ok-inner.inner ≡ true = c.in_ok-inner.ensures ∙ fit_then functions ps c.in_ok-functions.ensures f in
    let kinds : is_none c.in_ok-kinds.kinds ≡ false = rw inner at (sym c.first_of.ensures ∙ ap is_none c.in-Some.is) in
    c.in_ok-kinds.ensures.unfit kinds f.kinds
