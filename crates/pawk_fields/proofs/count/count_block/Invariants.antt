use Rattle.std.proofs.Common.{◌≡◌, take}
use Rattle.std.specs.List.{count_by}
use Rattle.memchr.specs.Find.{is_byte2}
use Rattle.pawk_fields.proofs.count.count_block.Given as goal

abbrev pub invariant-loop-b : goal.invariant-loop-b
invariant-loop-b l = l.count ≡ count_by (is_byte2 l.byte l.other) (take l.b-index l.block)
