use Rattle.std.proofs.Common.{length}
use Rattle.pawk_ere_syntax.proofs.byte_set.ByteSet.+insert_ranges.Given as goal

abbrev pub decreases-insert_ranges : goal.decreases-insert_ranges
decreases-insert_ranges l = length l.ranges.now
