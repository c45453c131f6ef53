use Rattle.std.proofs.Common.{◌≡◌, ◌+◌, true, drop, length, map}
use Rattle.std.specs.Vec.Iter.{into_iter_items, into_iter_len}
use Rattle.pawk_value.specs.Value.{Uninit}
use Rattle.pawk_world.specs.Worlds.{scalar}
use Rattle.pawk_store.specs.Globals.{value_at}
use Rattle.pawk_frozen.specs.MarkViews.{mark_view}
use Rattle.pawk_merge.specs.Joins.{takes, joined_value}
use Rattle.pawk_merge.specs.Tables.{each_below, scalar_mark}
use Rattle.pawk_merge.proofs.SlotLemmas.{done}
use Rattle.pawk_merge.proofs.table.join_scalars.Given as goal

abbrev pub invariant-loop-mark : goal.invariant-loop-mark
invariant-loop-mark l = record {
  size : into_iter_len l.mark-iterator + l.slot ≡ length l.fn.marks.items;
  left : into_iter_items l.mark-iterator ≡ drop l.slot l.fn.marks.items;
  taken : each_below l.slot (λ n. takes (scalar_mark (map mark_view l.fn.marks.items) n) (value_at (scalar n) l.fn.globals)) ≡ true;
  scalars : l.globals.scalars ≡ done Uninit (λ n v. joined_value (scalar_mark (map mark_view l.fn.marks.items) n) v) l.slot l.fn.globals.scalars;
  arrays : l.globals.arrays ≡ l.fn.globals.arrays;
}
