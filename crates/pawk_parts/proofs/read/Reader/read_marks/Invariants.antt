use Rattle.std.proofs.Common.{◌≤◌, length}
use Rattle.pawk_parts.specs.Reading.{noted_by}
use Rattle.pawk_parts.proofs.FrontLemmas.{Reached}
use Rattle.pawk_parts.proofs.read.Reader.read_marks.Given as goal

abbrev pub invariant-loop-count : goal.invariant-loop-count
invariant-loop-count l = record {
  reached : Reached l.fn.bytes (noted_by l.fn.self) l.rest (noted_by l.self);
  within : length l.rest ≤ length l.fn.bytes;
}

abbrev pub decreases-loop-count : goal.decreases-loop-count
decreases-loop-count l = length l.rest
