use Rattle.std.proofs.Common.{◌≡◌, ap, sym, ◌∙◌, rules}
use Rattle.std.specs.Prelude.{◌||◌}
use Rattle.pawk_code.specs.Expressions.{exprs, arguments}
use Rattle.pawk_code.specs.ExpressionViews.{view, views, argument_views, place_view, test_view, textual_view, format_view}
use Rattle.pawk_code.proofs.Rows.{view-Call, view-Element, view-In, view-Join, view-Format}
use Rattle.pawk_numbered.specs.Mentions.{in_expression, in_expressions, in_place, in_test, in_textual, in_format, in_arguments}
use Rattle.pawk_numbered.proofs.expression.+expression.Goals as goal

pub in_expression-returns-in-Call : goal.in_expression-returns-in-Call
in_expression-returns-in-Call t c =
    let values = c.in-Call.values in
    let here : c.in_arguments.result ≡ in_arguments (arguments (argument_views values.items)) = search rules in
    here ∙ sym (ap in_expression (ap view c.in-Call.is ∙ view-Call c.in-Call.field-0 values))

pub in_place-returns-in-Element : goal.in_place-returns-in-Element
in_place-returns-in-Element t c =
    let keys = c.in-Element.keys in
    let here : c.in_expressions.result ≡ in_expressions (exprs (views keys.items)) = search rules in
    here ∙ sym (ap in_place (ap place_view c.in-Element.is ∙ view-Element c.in-Element.field-0 keys))

pub in_test-returns-in-In : goal.in_test-returns-in-In
in_test-returns-in-In t c =
    let keys = c.in-In.keys in
    let here : c.in_expressions.result ≡ in_expressions (exprs (views keys.items)) = search rules in
    here ∙ sym (ap in_test (ap test_view c.in-In.is ∙ view-In c.in-In.field-0 keys))

pub in_textual-returns-in-Join : goal.in_textual-returns-in-Join
in_textual-returns-in-Join t c =
    let parts = c.in-Join.parts in
    let here : c.in_expressions.result ≡ in_expressions (exprs (views parts.items)) = search rules in
    here ∙ sym (ap in_textual (ap textual_view c.in-Join.is ∙ view-Join parts))

pub in_textual-returns-else-in_format : goal.in_textual-returns-else-in_format
in_textual-returns-else-in_format t c =
    let f = c.in-Format.f in
    let values = c.in-Format.values in
    let here : c.in_expressions-else-in_format.result ≡ (in_format (format_view f) || in_expressions (exprs (views values.items))) = search rules in
    here ∙ sym (ap in_textual (ap textual_view c.in-Format.is ∙ view-Format f values))
