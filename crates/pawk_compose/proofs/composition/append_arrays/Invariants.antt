use Rattle.std.proofs.Common.{◌≡◌, ◌+◌, [], drop, length}
use Rattle.std.specs.Vec.Iter.{into_iter_items, into_iter_len}
use Rattle.pawk_compose.specs.Compositions.{AreJoined}
use Rattle.pawk_compose.proofs.SlotLemmas.{Slots}
use Rattle.pawk_compose.proofs.composition.append_arrays.Given as goal

abbrev pub invariant-loop-marks : goal.invariant-loop-marks
invariant-loop-marks l = record {
  size : into_iter_len l.marks-iterator + l.slot ≡ length l.fn.second.items;
  left : into_iter_items l.marks-iterator ≡ drop l.slot l.fn.second.items;
  slots : Slots [] [] AreJoined l.slot l.fn.first l.fn.second.items l.first;
}
