use Rattle.std.proofs.Common.{◌≡◌, ◌+◌, ◌-◌, ◌≤◌, [], length}
use Rattle.pawk_records.specs.Begins.{begins_at, begins_within, places_where}
use Rattle.pawk_records.proofs.count.count_far_begins.Given as goal

abbrev pub invariant-loop-from : goal.invariant-loop-from
invariant-loop-from l = record {
  low : l.start ≤ l.from;
  within : l.from ≤ l.end;
  few : l.count ≤ l.from;
  same : l.count + length (places_where (begins_at [] l.bytes) l.from (l.end - l.from)) ≡ length (begins_within [] l.bytes l.start l.end);
}

abbrev pub decreases-loop-from : goal.decreases-loop-from
decreases-loop-from l = l.end - l.from
