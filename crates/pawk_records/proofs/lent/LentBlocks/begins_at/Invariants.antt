use Rattle.std.proofs.Common.{◌≡◌, ◌<◌, length}
use Rattle.pawk_records.specs.Begins as spec
use Rattle.pawk_records.specs.Separator.{rs_of}
use Rattle.pawk_records.specs.Blocks.{AreMended, joined}
use Rattle.pawk_records.proofs.lent.LentBlocks.begins_at.Given as goal

abbrev pub invariant-loop-bytes : goal.invariant-loop-bytes
invariant-loop-bytes l = record {
  mended : AreMended (rs_of l.separator) l.rest;
  within : l.left < length (joined l.rest);
  same : spec.begins_at (rs_of l.separator) (joined l.rest) l.left ≡ spec.begins_at (rs_of l.separator) (joined l.fn.self) l.place;
}

abbrev pub decreases-loop-bytes : goal.decreases-loop-bytes
decreases-loop-bytes l = length l.rest
