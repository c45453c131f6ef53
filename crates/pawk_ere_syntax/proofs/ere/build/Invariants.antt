use Rattle.std.proofs.Common.{◌≡◌, ◌≤◌, length}
use Rattle.pawk_ere_syntax.specs.Machine.{weight}
use Rattle.pawk_ere_syntax.specs.Builder.{builder_of}
use Rattle.pawk_ere_syntax.proofs.Progress.{Progress}
use Rattle.pawk_ere_syntax.proofs.ere.build.Given as goal

abbrev pub invariant-loop-rest : goal.invariant-loop-rest
invariant-loop-rest l = record {
  progress : Progress l.text l.rest (builder_of l.builder);
  sized : l.size ≡ weight (builder_of l.builder);
  small : l.size ≤ 4096;
}

abbrev pub decreases-loop-rest : goal.decreases-loop-rest
decreases-loop-rest l = length l.rest
