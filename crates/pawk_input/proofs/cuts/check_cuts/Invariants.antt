use Rattle.std.proofs.Common.{◌≡◌, drop}
use Rattle.pawk_input.specs.Input.{files_of}
use Rattle.pawk_input.specs.Plan.{cut_fault, cut_fault_from}
use Rattle.pawk_input.proofs.cuts.check_cuts.Given as goal

abbrev pub invariant-loop-cut : goal.invariant-loop-cut
invariant-loop-cut l = cut_fault_from l.rs (files_of l.input) l.before (drop l.cut-index l.cuts) ≡ cut_fault l.rs (files_of l.input) l.cuts
