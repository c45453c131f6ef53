use Rattle.std.proofs.Common.{◌≡◌, drop, length}
use Rattle.std.specs.List.{list_all}
use Rattle.pawk_syntax_check.specs.Marks.{AreBelow}
use Rattle.pawk_syntax_check.specs.Found.{meets_marks}
use Rattle.pawk_syntax_check.proofs.kinds.meets_all.Given as goal

abbrev pub invariant-loop-demand : goal.invariant-loop-demand
invariant-loop-demand l = record {
  below : AreBelow (length l.marks) (drop l.demand-index l.demands);
  all_so_far : list_all (meets_marks l.marks) (drop l.demand-index l.demands) ≡ list_all (meets_marks l.marks) l.demands;
}
