use Rattle.std.proofs.Common.{◌≡◌, ◌+◌, length}
use Rattle.std.specs.List.{count_by}
use Rattle.memchr.specs.Find.{is_byte2}
use Rattle.pawk_fields.proofs.count.count_bytes.Given as goal

abbrev pub invariant-loop-rest : goal.invariant-loop-rest
invariant-loop-rest l = l.count + count_by (is_byte2 l.byte l.other) l.rest ≡ count_by (is_byte2 l.byte l.other) l.text

abbrev pub decreases-loop-rest : goal.decreases-loop-rest
decreases-loop-rest l = length l.rest
