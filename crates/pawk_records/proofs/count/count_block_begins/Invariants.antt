use Rattle.std.proofs.Common.{◌≡◌, ◌+◌, ◌-◌, ◌≤◌, [], length}
use Rattle.pawk_records.specs.Begins.{begins_at, begins_within, places_where}
use Rattle.pawk_records.proofs.count.count_block_begins.Given as goal

abbrev pub invariant-loop-place : goal.invariant-loop-place
invariant-loop-place l = record {
  few : l.count + l.start ≤ l.place;
  same : l.count + length (places_where (begins_at [] l.bytes) l.place (l.end - l.place)) ≡ length (begins_within [] l.bytes l.start l.end);
}
