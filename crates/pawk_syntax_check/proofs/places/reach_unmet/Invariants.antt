use Rattle.std.proofs.Common.{drop, length}
use Rattle.pawk_syntax_check.specs.Marks.{AreBelow}
use Rattle.pawk_syntax_check.proofs.places.reach_unmet.Given as goal

abbrev pub invariant-loop-demand : goal.invariant-loop-demand
invariant-loop-demand l = AreBelow (length l.marks) (drop l.demand-index l.demands)
