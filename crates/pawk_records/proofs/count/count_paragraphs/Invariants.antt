use Rattle.std.proofs.Common.{◌≡◌, ◌+◌, ◌≤◌, length}
use Rattle.pawk_records.specs.Records.{paragraphs}
use Rattle.pawk_records.proofs.count.count_paragraphs.Given as goal

abbrev pub invariant-loop-later : goal.invariant-loop-later
invariant-loop-later l = record {
  few : l.count + length l.rest ≤ length l.initial.rest;
  same : l.count + length (paragraphs l.rest) ≡ length (paragraphs l.initial.rest);
}

abbrev pub decreases-loop-later : goal.decreases-loop-later
decreases-loop-later l = length l.rest
