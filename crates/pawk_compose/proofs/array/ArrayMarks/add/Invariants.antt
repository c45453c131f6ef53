use Rattle.std.proofs.Common.{length}
use Rattle.pawk_compose.proofs.KeyLemmas.{AreNoting}
use Rattle.pawk_compose.proofs.array.ArrayMarks.add.Given as goal

abbrev pub invariant-loop-key : goal.invariant-loop-key
invariant-loop-key l = AreNoting l.fn.self l.fn.marks l.self l.pairs

abbrev pub decreases-loop-key : goal.decreases-loop-key
decreases-loop-key l = length l.pairs
