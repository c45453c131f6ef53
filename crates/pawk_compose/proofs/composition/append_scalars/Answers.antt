use Rattle.std.proofs.Common.{◌≡◌, ◌∷◌, ◌<◌, ◌+◌, List, Some, drop, length, map, get_or, sym, ◌∙◌, ap, subst, arith}
use Rattle.std.proofs.lemmas.List.{get_or-map, length-map, map-set}
use Rattle.std.specs.Vec.Iter.{into_iter_items}
use Rattle.pawk_frozen.specs.Marks.{Mark, blank}
use Rattle.pawk_frozen.specs.MarkViews.{mark_view}
use Rattle.pawk_shards.specs.Joined.{composed}
use Rattle.pawk_compose.specs.Compositions.{may_follow}
use Rattle.pawk_compose.proofs.SlotLemmas.{Slots, left_after, left_within, one_slot}
use Rattle.pawk_compose.proofs.TableLemmas.{Composes, scalar_left}
use Rattle.pawk_compose.proofs.composition.append_scalars.Goals as goal

pub append-requires : goal.append-requires
append-requires c =
    let i = c.loop-mark.slot in
    let marks = c.args.second.items in
    let now = c.loop-mark.first in
    let r = c.index-first-slot.result in
    let m = mark_view c.in-Some.mark in
    let olds = map mark_view c.args.first.now in
    let rest = into_iter_items c.next.new.self in
    let left : drop i marks ≡ c.in-Some.mark ∷ rest = sym c.loop-mark.invariant.left ∙ c.in-Some.ensures.steps.0 in
    let within : i < length c.args.first.now = omega (arith, left_within i marks rest c.in-Some.mark left, c.requires.long) in
    let inside : i < length now = omega (arith, within, c.loop-mark.invariant.slots.size, length-map now mark_view, length-map c.args.first.now mark_view) in
    let here : mark_view (get_or now i r) ≡ get_or olds i blank = sym (get_or-map mark_view now i r blank inside) ∙ c.loop-mark.invariant.slots.left i (omega arith) in
    ap (λ x. may_follow x m) here ∙ ap (may_follow (get_or olds i blank)) (sym (scalar_left marks rest c.in-Some.mark i left)) ∙ c.requires.follow i within

pub loop-mark-preserved : goal.loop-mark-preserved
loop-mark-preserved c =
    let i = c.loop-mark.slot in
    let marks = c.args.second.items in
    let now = c.loop-mark.first in
    let r = c.index-first-slot.result in
    let m = mark_view c.in-Some.mark in
    let new = c.append.new.first in
    let olds = map mark_view c.args.first.now in
    let seconds = map mark_view marks in
    let rest = into_iter_items c.next.new.self in
    let left : drop i marks ≡ c.in-Some.mark ∷ rest = sym c.loop-mark.invariant.left ∙ c.in-Some.ensures.steps.0 in
    let within : i < length olds = omega (arith, left_within i marks rest c.in-Some.mark left, c.requires.long, length-map c.args.first.now mark_view) in
    let inside : i < length now = omega (arith, within, c.loop-mark.invariant.slots.size, length-map now mark_view) in
    let here : mark_view (get_or now i r) ≡ get_or olds i blank = sym (get_or-map mark_view now i r blank inside) ∙ c.loop-mark.invariant.slots.left i (omega arith) in
    let one : composed (get_or olds i blank) (get_or seconds i blank) ≡ Some (mark_view new) =
    ap (λ x. composed x (get_or seconds i blank)) (sym here) ∙ ap (composed (mark_view (get_or now i r))) (scalar_left marks rest c.in-Some.mark i left) ∙ c.append.ensures in
    record {
      size = omega (arith, c.loop-mark.invariant.size, c.in-Some.ensures.steps.1);
      left = sym (left_after i marks rest c.in-Some.mark left);
      slots =
          subst (λ (ns : List Mark). Slots blank blank Composes (i + 1) olds seconds ns) (sym (map-set mark_view now i new))
          (one_slot blank blank Composes i olds seconds (map mark_view now) (mark_view new) within one c.loop-mark.invariant.slots);
    }
