use Rattle.std.proofs.Common.{rules, [], ◌∷◌, ap, ◌∙◌}
use Rattle.pawk_code.specs.Expressions.{exprs, arguments}
use Rattle.pawk_code.specs.ExpressionViews.{view, views, argument_views, place_view, test_view, textual_view, format_view}
use Rattle.pawk_code.proofs.Rows.{view-Call, view-Element, view-In, view-Join, view-Format}
use Rattle.pawk_admit.specs.declared.occurrence.Touch.TheVariants.{Test}
use Rattle.pawk_admit.specs.declared.occurrence.Occurrence.TheVariants.{Call}
use Rattle.pawk_admit.specs.Occurrences.{of_array, of_arguments, of_expression, of_expressions, of_format, of_place, of_test, of_textual}
use Rattle.pawk_admit.proofs.Appends.{after, at_once}
use Rattle.pawk_admit.proofs.expression.+expression.Goals as goal

pub expression-returns-in_ok-push-in-Call : goal.expression-returns-in_ok-push-in-Call
expression-returns-in_ok-push-in-Call t c =
    let f = c.in-Call.f in
    let as' = c.in-Call.values in
    after _ _ c.args.list.now.items c.push.new.self.items _ (Call f ∷ []) (of_arguments (arguments (argument_views as'.items)))
    (search rules) (search rules) (ap of_expression (ap view c.in-Call.is ∙ view-Call f as'))

pub place-returns-in_ok-array-in-Element : goal.place-returns-in_ok-array-in-Element
place-returns-in_ok-array-in-Element t c =
    let a = c.in-Element.name in
    let keys = c.in-Element.keys in
    after _ _ c.args.list.now.items c.array.new.list.items _ (of_array c.args.touch a) (of_expressions (exprs (views keys.items)))
    (search rules) (search rules) (ap (of_place c.args.touch) (ap place_view c.in-Element.is ∙ view-Element a keys))

pub test-returns-in_ok-array-in-In : goal.test-returns-in_ok-array-in-In
test-returns-in_ok-array-in-In t c =
    let a = c.in-In.name in
    let keys = c.in-In.keys in
    after _ _ c.args.list.now.items c.array.new.list.items _ (of_array Test a) (of_expressions (exprs (views keys.items)))
    (search rules) (search rules) (ap of_test (ap test_view c.in-In.is ∙ view-In a keys))

pub textual-returns-in-Join : goal.textual-returns-in-Join
textual-returns-in-Join t c =
    let parts = c.in-Join.parts in
    at_once _ _ c.args.list.now.items _ (of_expressions (exprs (views parts.items)))
    (search rules) (ap of_textual (ap textual_view c.in-Join.is ∙ view-Join parts))

pub textual-returns-in_ok-format-in-Format : goal.textual-returns-in_ok-format-in-Format
textual-returns-in_ok-format-in-Format t c =
    let f = c.in-Format.f in
    let values = c.in-Format.values in
    after _ _ c.args.list.now.items c.format.new.list.items _ (of_format (format_view f)) (of_expressions (exprs (views values.items)))
    (search rules) (search rules) (ap of_textual (ap textual_view c.in-Format.is ∙ view-Format f values))
