use Rattle.std.proofs.Common.{◌≡◌, ℕ, ◌+◌, ◌<◌, length}
use Rattle.memchr.specs.Find.{Nowhere}
use Rattle.pawk_records.specs.Begins.{BeginsAt, begins_at}
use Rattle.pawk_records.specs.Separator.{rs_of}
use Rattle.pawk_records.specs.Blocks.{AreMended, joined}
use Rattle.pawk_records.proofs.lent.LentBlocks.next_begin.Given as goal

abbrev pub invariant-loop-bytes : goal.invariant-loop-bytes
invariant-loop-bytes l = record {
  mended : AreMended (rs_of l.separator) l.rest;
  size : l.before + length (joined l.rest) ≡ length (joined l.fn.self);
  none : Nowhere (BeginsAt (rs_of l.separator) (joined l.fn.self)) l.from l.before;
  same : (k : ℕ) → k < length (joined l.rest) → begins_at (rs_of l.separator) (joined l.fn.self) (l.before + k) ≡ begins_at (rs_of l.separator) (joined l.rest) k;
}

abbrev pub decreases-loop-bytes : goal.decreases-loop-bytes
decreases-loop-bytes l = length l.rest
