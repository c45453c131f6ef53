use Rattle.std.proofs.Common.{◌≡◌, ◌∷◌, ◌<◌, ◌≤◌, ◌+◌, List, [], drop, length, sym, ◌∙◌, ap, subst, arith}
use Rattle.std.proofs.lemmas.List.{length-replicate}
use Rattle.std.specs.Vec.Iter.{into_iter_items}
use Rattle.pawk_frozen.specs.Marks.{Marks, Table}
use Rattle.pawk_compose.proofs.SlotLemmas.{Slots, all_second, left_after, left_at, left_within, one_slot, second_is}
use Rattle.pawk_compose.proofs.composition.note_arrays.Goals as goal

abbrev none : Marks
none = []

pub loop-marks-preserved : goal.loop-marks-preserved
loop-marks-preserved c =
    let i = c.loop-marks.slot in
    let seconds = c.args.arrays.items in
    let olds = c.args.table.now.arrays in
    let marks = c.in-Some.marks in
    let rest = into_iter_items c.next.new.self in
    let left : drop i seconds ≡ marks ∷ rest = sym c.loop-marks.invariant.left ∙ c.in-Some.ensures.steps.0 in
    let within : i < length olds = omega (arith, left_within i seconds rest marks left, ap length c.requires, length-replicate (length seconds) none) in
    record {
      size = omega (arith, c.loop-marks.invariant.size, c.in-Some.ensures.steps.1);
      left = sym (left_after i seconds rest marks left);
      slots =
          subst (λ (ns : List Marks). Slots [] [] second_is (i + 1) olds seconds ns) (sym (ap (λ (t : Table). t.arrays) c.in_ok-note.ensures))
          (one_slot [] [] second_is i olds seconds c.loop-marks.table.arrays marks within (sym (left_at i seconds rest marks left [])) c.loop-marks.invariant.slots);
      scalars = ap (λ (t : Table). t.scalars) c.in_ok-note.ensures ∙ c.loop-marks.invariant.scalars;
    }

pub returns : goal.returns
returns c =
    let i = c.loop-marks.slot in
    let seconds = c.args.arrays.items in
    let olds = c.args.table.now.arrays in
    let long : length seconds ≡ length olds = omega (arith, ap length c.requires, length-replicate (length seconds) none) in
    let all : length olds ≤ i = omega (arith, long, c.loop-marks.invariant.size, c.in-None.ensures.steps.0) in
    let arrays = all_second [] i olds seconds c.loop-marks.table.arrays long all c.loop-marks.invariant.slots in
    λ j. record { scalars = c.loop-marks.invariant.scalars j; arrays = arrays j }
