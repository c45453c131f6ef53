use Rattle.std.proofs.Common.{◌≡◌, ◌<◌, ◌≤◌, ℕ, true, length, map}
use Rattle.std.specs.Prelude.{slice_index_or}
use Rattle.pawk_frozen.specs.Marks.{blank}
use Rattle.pawk_frozen.specs.MarkViews.{mark_view}
use Rattle.pawk_compose.specs.Compositions.{may_follow}
use Rattle.pawk_compose.proofs.composition.scalars_follow.Given as goal

abbrev pub invariant-loop-slot : goal.invariant-loop-slot
invariant-loop-slot l = record {
  follow : (n : ℕ) → n < l.slot → may_follow (slice_index_or (map mark_view l.fn.first) n blank) (slice_index_or (map mark_view l.fn.second) n blank) ≡ true;
  within : l.slot ≤ length l.fn.first;
  ends : l.slot-end ≡ length l.fn.first;
}
