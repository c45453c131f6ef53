use Rattle.std.proofs.Common.{◌≡◌, [], true, false, length, Some, None, sym, ◌∙◌, ap}
use Rattle.std.specs.Prelude.{◌==◌}
use Rattle.std.specs.Option.{is_none}
use Rattle.std.proofs.lemmas.List.{take_rest}
use Rattle.pawk_settings.specs.Escapes.{value_byte}
use Rattle.pawk_settings.proofs.ValueLemmas.{one_more_byte, no_byte}
use Rattle.pawk_settings.proofs.assignment.read_value.Goals as goal

pub loop-byte-preserved : goal.loop-byte-preserved
loop-byte-preserved c =
    let found : value_byte c.loop-byte.text.now ≡ Some (c.in-Some.byte, c.in-Some.length) = sym c.value_byte.ensures.value ∙ c.in-Some.is in
    rw take_rest (one_more_byte _ _ _ _ c.in-Some.byte c.in-Some.length found c.in-Some.ensures.within.0 c.in_ok-push.ensures.items c.loop-byte.invariant)

pub returns-else-is_empty-clause-unread : goal.returns-else-is_empty-clause-unread
returns-else-is_empty-clause-unread c =
    let text = c.loop-byte.text.now in
    let found : value_byte text ≡ None = sym c.value_byte.ensures.value ∙ c.in_default.is in
    let some_left : text ≡ [] → ⊥ = λ e.
    let no : true ≡ false = sym (ap (λ t. length t == 0) e) ∙ sym c.is_empty.ensures ∙ c.if-is_empty.false in cc in
    sym (ap is_none (no_byte _ _ text found some_left c.loop-byte.invariant))
