use Rattle.std.proofs.Common.{◌≡◌, ◌≤◌, map, length, true}
use Rattle.pawk_frozen.specs.MarkViews.{mark_view}
use Rattle.pawk_world.specs.Worlds.{scalar}
use Rattle.pawk_store.specs.Globals.{value_at}
use Rattle.pawk_merge.specs.Joins.{takes}
use Rattle.pawk_merge.specs.Tables.{each_below, scalar_mark}
use Rattle.pawk_merge.proofs.table.takes_scalars.Given as goal

abbrev pub invariant-loop-slot : goal.invariant-loop-slot
invariant-loop-slot l = record {
  taken : each_below l.slot (λ n. takes (scalar_mark (map mark_view l.fn.marks) n) (value_at (scalar n) l.fn.globals)) ≡ true;
  within : l.slot ≤ length l.fn.marks;
  ends : l.slot-end ≡ length l.fn.marks;
}
