use Rattle.std.proofs.Common.{◌≡◌, ◌∷◌, ◌<◌, ◌≤◌, ◌+◌, List, drop, length, map, sym, ◌∙◌, ap, subst, arith}
use Rattle.std.proofs.lemmas.List.{length-map}
use Rattle.std.specs.Vec.Iter.{into_iter_items}
use Rattle.pawk_frozen.specs.Marks.{Mark, Table, blank}
use Rattle.pawk_frozen.specs.MarkViews.{mark_view}
use Rattle.pawk_compose.proofs.SlotLemmas.{Slots, all_second, left_after, left_within, one_slot, second_is}
use Rattle.pawk_compose.proofs.TableLemmas.{scalar_left}
use Rattle.pawk_compose.proofs.composition.note_scalars.Goals as goal

pub loop-mark-preserved : goal.loop-mark-preserved
loop-mark-preserved c =
    let i = c.loop-mark.slot in
    let marks = c.args.marks.items in
    let m = mark_view c.in-Some.mark in
    let olds = c.args.table.now.scalars in
    let seconds = map mark_view marks in
    let rest = into_iter_items c.next.new.self in
    let left : drop i marks ≡ c.in-Some.mark ∷ rest = sym c.loop-mark.invariant.left ∙ c.in-Some.ensures.steps.0 in
    let within : i < length olds = omega (arith, left_within i marks rest c.in-Some.mark left, c.requires) in
    record {
      size = omega (arith, c.loop-mark.invariant.size, c.in-Some.ensures.steps.1);
      left = sym (left_after i marks rest c.in-Some.mark left);
      slots =
          subst (λ (ns : List Mark). Slots blank blank second_is (i + 1) olds seconds ns) (sym (ap (λ (t : Table). t.scalars) c.set_scalar.ensures))
          (one_slot blank blank second_is i olds seconds c.loop-mark.table.scalars m within (sym (scalar_left marks rest c.in-Some.mark i left)) c.loop-mark.invariant.slots);
      arrays = ap (λ (t : Table). t.arrays) c.set_scalar.ensures ∙ c.loop-mark.invariant.arrays;
    }

pub returns : goal.returns
returns c =
    let i = c.loop-mark.slot in
    let marks = c.args.marks.items in
    let olds = c.args.table.now.scalars in
    let seconds = map mark_view marks in
    let long : length seconds ≡ length olds = omega (arith, c.requires, length-map marks mark_view) in
    let all : length olds ≤ i = omega (arith, c.requires, c.loop-mark.invariant.size, c.in-None.ensures.steps.0) in
    let scalars = all_second blank i olds seconds c.loop-mark.table.scalars long all c.loop-mark.invariant.slots in
    λ j. record { scalars = scalars j; arrays = c.loop-mark.invariant.arrays j }
