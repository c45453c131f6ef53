use Rattle.std.proofs.Common.{◌≡◌, ◌≤◌, length, true}
use Rattle.pawk_store.specs.Globals.{array_at}
use Rattle.pawk_merge.specs.Tables.{each_below, array_marks, array_takes}
use Rattle.pawk_merge.proofs.table.takes_arrays.Given as goal

abbrev pub invariant-loop-slot : goal.invariant-loop-slot
invariant-loop-slot l = record {
  taken : each_below l.slot (λ n. array_takes (array_marks l.fn.marks n) (array_at l.fn.globals n)) ≡ true;
  within : l.slot ≤ length l.fn.marks;
  ends : l.slot-end ≡ length l.fn.marks;
}
