use Rattle.std.proofs.Common.{◌≡◌, ap, sym, ◌∙◌, rules}
use Rattle.std.specs.Prelude.{◌&&◌}
use Rattle.pawk_code.specs.Calm.{are_calm, is_calm_place, is_calm_test, is_calm_textual, is_calm_format}
use Rattle.pawk_code.specs.Expressions.{exprs}
use Rattle.pawk_code.specs.ExpressionViews.{views, place_view, test_view, textual_view, format_view}
use Rattle.pawk_code.proofs.Rows.{view-Element, view-In, view-Join, view-Format}
use Rattle.pawk_resolve_program.proofs.calm.+calm.Goals as goal

pub is_calm_place-returns-in-Element : goal.is_calm_place-returns-in-Element
is_calm_place-returns-in-Element t c =
    let keys = c.in-Element.keys in
    let here : c.are_calm.result ≡ are_calm (exprs (views keys.items)) = search rules in
    here ∙ sym (ap is_calm_place (ap place_view c.in-Element.is ∙ view-Element c.in-Element.field-0 keys))

pub is_calm_test-returns-in-In : goal.is_calm_test-returns-in-In
is_calm_test-returns-in-In t c =
    let keys = c.in-In.keys in
    let here : c.are_calm.result ≡ are_calm (exprs (views keys.items)) = search rules in
    here ∙ sym (ap is_calm_test (ap test_view c.in-In.is ∙ view-In c.in-In.field-0 keys))

pub is_calm_textual-returns-in-Join : goal.is_calm_textual-returns-in-Join
is_calm_textual-returns-in-Join t c =
    let parts = c.in-Join.parts in
    let here : c.are_calm.result ≡ are_calm (exprs (views parts.items)) = search rules in
    here ∙ sym (ap is_calm_textual (ap textual_view c.in-Join.is ∙ view-Join parts))

pub is_calm_textual-returns-then-is_calm_format : goal.is_calm_textual-returns-then-is_calm_format
is_calm_textual-returns-then-is_calm_format t c =
    let f = c.in-Format.f in
    let values = c.in-Format.values in
    let here : c.are_calm-then-is_calm_format.result ≡ (is_calm_format (format_view f) && are_calm (exprs (views values.items))) = search rules in
    here ∙ sym (ap is_calm_textual (ap textual_view c.in-Format.is ∙ view-Format f values))
