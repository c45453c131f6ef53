use Rattle.std.proofs.Common.{◌≡◌, ◌∷◌, ◌<◌, [], drop, length, get_or, sym, ◌∙◌, ap, arith}
use Rattle.std.proofs.lemmas.List.{get_or_default}
use Rattle.std.specs.Vec.Iter.{into_iter_items}
use Rattle.pawk_keyed_map.specs.Keyed.{found}
use Rattle.pawk_frozen.specs.Marks.{mark_found}
use Rattle.pawk_compose.specs.Compositions.{AreJoined, may_follow, noted_again}
use Rattle.pawk_compose.proofs.SlotLemmas.{left_after, left_at, left_within, one_slot}
use Rattle.pawk_compose.proofs.composition.append_arrays.Goals as goal

pub add-requires : goal.add-requires
add-requires c =
    let i = c.loop-marks.slot in
    let seconds = c.args.second.items in
    let olds = c.args.first.now in
    let now = c.loop-marks.first in
    let r = c.index-first-slot.result in
    let marks = c.in-Some.marks in
    let rest = into_iter_items c.next.new.self in
    let left : drop i seconds ≡ marks ∷ rest = sym c.loop-marks.invariant.left ∙ c.in-Some.ensures.steps.0 in
    let within : i < length olds = omega (arith, left_within i seconds rest marks left, c.requires.long) in
    let inside : i < length now = omega (arith, within, c.loop-marks.invariant.slots.size) in
    let here : get_or now i r ≡ get_or olds i [] = get_or_default now i r [] inside ∙ c.loop-marks.invariant.slots.left i (omega arith) in
    let there : get_or seconds i [] ≡ marks = left_at i seconds rest marks left [] in
    λ key. ap (λ es. may_follow (mark_found key es) (mark_found key marks)) here
    ∙ ap (λ fs. may_follow (mark_found key (get_or olds i [])) (mark_found key fs)) (sym there)
    ∙ c.requires.follow i within key

pub loop-marks-preserved : goal.loop-marks-preserved
loop-marks-preserved c =
    let i = c.loop-marks.slot in
    let seconds = c.args.second.items in
    let olds = c.args.first.now in
    let now = c.loop-marks.first in
    let r = c.index-first-slot.result in
    let marks = c.in-Some.marks in
    let new = c.add.new.self in
    let rest = into_iter_items c.next.new.self in
    let left : drop i seconds ≡ marks ∷ rest = sym c.loop-marks.invariant.left ∙ c.in-Some.ensures.steps.0 in
    let within : i < length olds = omega (arith, left_within i seconds rest marks left, c.requires.long) in
    let inside : i < length now = omega (arith, within, c.loop-marks.invariant.slots.size) in
    let here : get_or now i r ≡ get_or olds i [] = get_or_default now i r [] inside ∙ c.loop-marks.invariant.slots.left i (omega arith) in
    let there : get_or seconds i [] ≡ marks = left_at i seconds rest marks left [] in
    let one : AreJoined (get_or olds i []) (get_or seconds i []) new =
    λ key. c.in_ok-add.ensures.joined key
    ∙ ap (λ es. noted_again (found key es) (found key marks)) here
    ∙ ap (λ fs. noted_again (found key (get_or olds i [])) (found key fs)) (sym there) in
    record {
      size = omega (arith, c.loop-marks.invariant.size, c.in-Some.ensures.steps.1);
      left = sym (left_after i seconds rest marks left);
      slots = one_slot [] [] AreJoined i olds seconds now new within one c.loop-marks.invariant.slots;
    }
