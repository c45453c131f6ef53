use Rattle.std.proofs.Common.{◌≡◌, ◌+◌, ◌≤◌, length}
use Rattle.pawk_records.specs.Begins.{begins_within}
use Rattle.pawk_records.specs.Separator.{rs_of}
use Rattle.pawk_records.specs.Blocks.{AreMended, joined}
use Rattle.pawk_records.proofs.lent.LentBlocks.count_begins.Given as goal

abbrev pub invariant-loop-block : goal.invariant-loop-block
invariant-loop-block l = record {
  mended : AreMended (rs_of l.separator) l.rest;
  rising : l.from ≤ l.to;
  within : l.to ≤ length (joined l.rest);
  same : l.count + length (begins_within (rs_of l.separator) (joined l.rest) l.from l.to) ≡ length (begins_within (rs_of l.separator) (joined l.fn.self) l.start l.end);
}

abbrev pub decreases-loop-block : goal.decreases-loop-block
decreases-loop-block l = length l.rest
