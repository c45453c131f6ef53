use Rattle.std.proofs.Common.{◌≡◌, ◌+◌, drop, length, map}
use Rattle.std.specs.Vec.Iter.{into_iter_items, into_iter_len}
use Rattle.pawk_frozen.specs.Marks.{blank}
use Rattle.pawk_frozen.specs.MarkViews.{mark_view}
use Rattle.pawk_compose.proofs.SlotLemmas.{Slots}
use Rattle.pawk_compose.proofs.TableLemmas.{Composes}
use Rattle.pawk_compose.proofs.composition.append_scalars.Given as goal

abbrev pub invariant-loop-mark : goal.invariant-loop-mark
invariant-loop-mark l = record {
  size : into_iter_len l.mark-iterator + l.slot ≡ length l.fn.second.items;
  left : into_iter_items l.mark-iterator ≡ drop l.slot l.fn.second.items;
  slots : Slots blank blank Composes l.slot (map mark_view l.fn.first) (map mark_view l.fn.second.items) (map mark_view l.first);
}
