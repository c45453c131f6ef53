use Rattle.std.proofs.Common.{◌-◌, ◌≤◌, [], length}
use Rattle.memchr.specs.Find.{Nowhere}
use Rattle.pawk_records.specs.Begins.{BeginsAt}
use Rattle.pawk_records.proofs.paragraphs.next_paragraph.Given as goal

abbrev pub invariant-loop-place : goal.invariant-loop-place
invariant-loop-place l = record {
  low : l.from ≤ l.place;
  none : Nowhere (BeginsAt [] l.bytes) l.from l.place;
}

abbrev pub decreases-loop-place : goal.decreases-loop-place
decreases-loop-place l = length l.bytes - l.place
