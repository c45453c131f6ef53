use Rattle.std.proofs.Common.{ℕ, List, length}
use Rattle.pawk_frozen.specs.Marks.{mark_found}
use Rattle.pawk_merge_law.specs.Adders.{SetsNothing}
use Rattle.pawk_merge_law.proofs.adders.sets_none.Given as goal

abbrev pub invariant-loop-key : goal.invariant-loop-key
invariant-loop-key l = (q : List ℕ) → SetsNothing (mark_found q l.pairs) → SetsNothing (mark_found q l.fn.marks)

abbrev pub decreases-loop-key : goal.decreases-loop-key
decreases-loop-key l = length l.pairs
