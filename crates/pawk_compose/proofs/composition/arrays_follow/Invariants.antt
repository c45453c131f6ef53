use Rattle.std.proofs.Common.{◌≡◌, ◌<◌, ◌≤◌, ℕ, [], length}
use Rattle.std.specs.Prelude.{slice_index_or}
use Rattle.pawk_compose.specs.Compositions.{AllFollow}
use Rattle.pawk_compose.proofs.composition.arrays_follow.Given as goal

abbrev pub invariant-loop-slot : goal.invariant-loop-slot
invariant-loop-slot l = record {
  follow : (n : ℕ) → n < l.slot → AllFollow (slice_index_or l.fn.first n []) (slice_index_or l.fn.second n []);
  within : l.slot ≤ length l.fn.first;
  ends : l.slot-end ≡ length l.fn.first;
}
