use Rattle.std.proofs.Common.{◌≡◌, ◌+◌, [], drop, length}
use Rattle.std.specs.Vec.Iter.{into_iter_items, into_iter_len}
use Rattle.pawk_compose.proofs.SlotLemmas.{Slots, second_is}
use Rattle.pawk_compose.proofs.composition.note_arrays.Given as goal

abbrev pub invariant-loop-marks : goal.invariant-loop-marks
invariant-loop-marks l = record {
  size : into_iter_len l.marks-iterator + l.slot ≡ length l.fn.arrays.items;
  left : into_iter_items l.marks-iterator ≡ drop l.slot l.fn.arrays.items;
  slots : Slots [] [] second_is l.slot l.fn.table.arrays l.fn.arrays.items l.table.arrays;
  scalars : l.table.scalars ≡ l.fn.table.scalars;
}
