use Rattle.std.proofs.Common.{◌≡◌, ◌∙◌, ◌+◌, ◌∷◌, Bool, ap, drop, sym, unwrap_or, if◌then◌else◌}
use Rattle.std.specs.Option.{option_map}
use Rattle.std.specs.Str.{bytes_eq}
use Rattle.std.proofs.lemmas.List.{drop_more}
use Rattle.pawk_value.specs.Value.{Val, Maybe}
use Rattle.pawk_store.specs.Openings.{pairs_of, value_after}
use Rattle.pawk_pieces.proofs.operands.last_value.Goals as goal
use Rattle.pawk_pieces.proofs.operands.last_value.Goals.{then-eq, else-eq}

pub loop-assignment-preserved : goal.loop-assignment-preserved
loop-assignment-preserved c = λ v.
    let i = c.loop-assignment.assignment-index in
    let all = c.args.assignments.now in
    let item = c.assignment-item.result in
    let name = c.args.name.now in
    let rest = pairs_of (drop (i + 1) all) in
    let next : pairs_of (drop i all) ≡ (item.name.items, item.value.items) ∷ rest =
    ap pairs_of (drop_more all i item c.loop-assignment-test.true ∙ ap (λ a. a ∷ drop (i + 1) all) (sym c.assignment-item.is)) in
    let before : Val = unwrap_or (option_map (λ text. Maybe text.now) c.loop-assignment.last) v in
    let after : Val = unwrap_or (option_map (λ text. Maybe text.now) c.if-eq.last) v in
    let one : Bool → Val = λ b. if b then Maybe item.value.items else before in
    let test : bytes_eq name item.name.items ≡ c.eq.result = ap (bytes_eq name) (sym c.as_slice.ensures.value) ∙ sym c.eq.ensures in
    let same : one (bytes_eq name item.name.items) ≡ after = elim c.if-eq.branch [
      | then-eq w ↦ ap one (test ∙ w.if-eq.true) ∙ ap Maybe (sym w.as_slice-then-eq.ensures.value) ∙ sym (ap (λ o. unwrap_or (option_map (λ text. Maybe text.now) o) v) w.last-is)
      | else-eq w ↦ ap one (test ∙ w.if-eq.false) ∙ sym (ap (λ o. unwrap_or (option_map (λ text. Maybe text.now) o) v) w.last-is)
    ] in
    c.loop-assignment.invariant v ∙ ap (λ ps. value_after ps name before) next ∙ ap (value_after rest name) same
