use Rattle.std.proofs.Common.{◌≡◌, ◌∙◌, ◌<◌, List, ℕ, Vec, Global, ap, length, sym, subst, slice_index_or, unwrap_or}
use Rattle.std.specs.Option.{option_map}
use Rattle.pawk_value.specs.Value.{Val, Maybe}
use Rattle.pawk_store.specs.Openings.{pairs_of, value_after}
use Rattle.pawk_pieces.proofs.OperandLemmas.{goes_on_set, goes_on_same}
use Rattle.pawk_pieces.proofs.operands.assign.Goals as goal
use Rattle.pawk_pieces.proofs.operands.assign.Goals.{in-Some+in_ok-set_text, in_default}

pub loop-slot-preserved : goal.loop-slot-preserved
loop-slot-preserved c =
    let i = c.loop-slot.slot in
    let items = c.args.job.code.now.scalars.items in
    let item = c.name-item.result in
    let pairs = pairs_of c.args.assignments.now in
    let seen : c.deref-name-items.result.now ≡ items = c.deref-name-items.ensures.value in
    let less : i < length items = subst (λ (xs : List (Vec ℕ Global)). i < length xs) seen c.loop-slot-test.true in
    let is : item ≡ slice_index_or items i item = c.name-item.is ∙ ap (λ (xs : List (Vec ℕ Global)). slice_index_or xs i item) seen in
    let told : (v : Val) → value_after pairs item.items v ≡ unwrap_or (option_map (λ text. Maybe text.now) c.last_value.result) v =
    λ v. ap (λ name. value_after pairs name v) (sym c.as_slice.ensures.value) ∙ c.last_value.ensures v in
    elim c.match-last_value.branch [
      | in-Some+in_ok-set_text w ↦ w.globals-is ∙ w.in_ok-set_text.ensures
          ∙ goes_on_set items i item less is pairs c.args.globals.now c.loop-slot.globals c.loop-slot.invariant w.in-Some.text.now
          (λ v. told v ∙ ap (λ o. unwrap_or (option_map (λ text. Maybe text.now) o) v) w.in-Some.is)
      | in_default w ↦ w.globals-is
          ∙ goes_on_same items i item less is pairs c.args.globals.now c.loop-slot.globals c.loop-slot.invariant
          (λ v. told v ∙ ap (λ o. unwrap_or (option_map (λ text. Maybe text.now) o) v) w.in_default.is)
    ]
