use Rattle.std.proofs.Common.{◌≡◌, ◌+◌, drop, length, map}
use Rattle.std.specs.Vec.Iter.{into_iter_items, into_iter_len}
use Rattle.pawk_frozen.specs.Marks.{blank}
use Rattle.pawk_frozen.specs.MarkViews.{mark_view}
use Rattle.pawk_compose.proofs.SlotLemmas.{Slots, second_is}
use Rattle.pawk_compose.proofs.composition.note_scalars.Given as goal

abbrev pub invariant-loop-mark : goal.invariant-loop-mark
invariant-loop-mark l = record {
  size : into_iter_len l.mark-iterator + l.slot ≡ length l.fn.marks.items;
  left : into_iter_items l.mark-iterator ≡ drop l.slot l.fn.marks.items;
  slots : Slots blank blank second_is l.slot l.fn.table.scalars (map mark_view l.fn.marks.items) l.table.scalars;
  arrays : l.table.arrays ≡ l.fn.table.arrays;
}
