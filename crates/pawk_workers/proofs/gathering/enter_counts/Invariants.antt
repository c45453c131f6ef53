use Rattle.std.proofs.Common.{◌≡◌, length, take}
use Rattle.pawk_workers.specs.Counting.{EntersMore}
use Rattle.pawk_workers.proofs.gathering.enter_counts.Given as goal

abbrev pub invariant-loop-number : goal.invariant-loop-number
invariant-loop-number l = record {
  len : length l.counts ≡ length l.fn.counts;
  entered : EntersMore (take l.number-index l.numbered) l.fn.counts l.counts;
}
