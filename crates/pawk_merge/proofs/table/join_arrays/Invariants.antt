use Rattle.std.proofs.Common.{◌≡◌, ◌+◌, true, [], drop, length}
use Rattle.std.specs.Vec.Iter.{into_iter_items, into_iter_len}
use Rattle.pawk_store.specs.Globals.{array_at}
use Rattle.pawk_merge.specs.Tables.{each_below, array_marks, array_takes, join_array}
use Rattle.pawk_merge.proofs.SlotLemmas.{done}
use Rattle.pawk_merge.proofs.table.join_arrays.Given as goal

abbrev pub invariant-loop-of_elements : goal.invariant-loop-of_elements
invariant-loop-of_elements l = record {
  size : into_iter_len l.of_elements-iterator + l.slot ≡ length l.fn.marks.items;
  left : into_iter_items l.of_elements-iterator ≡ drop l.slot l.fn.marks.items;
  taken : each_below l.slot (λ n. array_takes (array_marks l.fn.marks.items n) (array_at l.fn.globals n)) ≡ true;
  arrays : l.globals.arrays ≡ done [] (λ n es. join_array (array_marks l.fn.marks.items n) es) l.slot l.fn.globals.arrays;
  scalars : l.globals.scalars ≡ l.fn.globals.scalars;
}
