use Rattle.std.proofs.Common.{◌≡◌, drop, length}
use Rattle.std.specs.Prelude.{◌||◌}
use Rattle.pawk_syntax_check.specs.Marks.{AreBelow, steps, changes}
use Rattle.pawk_syntax_check.proofs.marks.steps.Given as goal

abbrev pub invariant-loop-demand : goal.invariant-loop-demand
invariant-loop-demand l = record {
  below : AreBelow (length l.marks) (drop l.demand-index l.demands);
  marks : steps (drop l.demand-index l.demands) l.marks ≡ steps l.demands l.fn.marks;
  changes_so_far : (l.changes || changes (drop l.demand-index l.demands) l.marks) ≡ changes l.demands l.fn.marks;
}
