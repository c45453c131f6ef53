use Rattle.std.proofs.Common.{length}
use Rattle.std.specs.Prelude.{◌↔◌}
use Rattle.pawk_compose.specs.Compositions.{AllFollow}
use Rattle.pawk_compose.proofs.array.ArrayMarks.takes.Given as goal

abbrev pub invariant-loop-key : goal.invariant-loop-key
invariant-loop-key l = AllFollow l.fn.self l.pairs ↔ AllFollow l.fn.self l.fn.marks

abbrev pub decreases-loop-key : goal.decreases-loop-key
decreases-loop-key l = length l.pairs
