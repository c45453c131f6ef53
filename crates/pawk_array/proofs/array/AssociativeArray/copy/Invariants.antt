use Rattle.std.proofs.Common.{◌≡◌, ◌≤◌, length, drop}
use Rattle.pawk_array.specs.ArrayViews.{entries_of}
use Rattle.pawk_array.proofs.array.AssociativeArray.copy.Given as goal

abbrev pub invariant-loop-place : goal.invariant-loop-place
invariant-loop-place l = record {
  within : l.place ≤ length l.self-inside.map.entries;
  so_far : entries_of l.map.entries ≡ entries_of (drop l.place l.self-inside.map.entries);
}

abbrev pub decreases-loop-place : goal.decreases-loop-place
decreases-loop-place l = l.place
