use Rattle.std.proofs.Common.{◌+◌, ◌≤◌, length}
use Rattle.pawk_ere_syntax.proofs.Causes.{GoesWell}
use Rattle.pawk_ere_syntax.proofs.Shapes.{Looked}
use Rattle.pawk_ere_syntax.proofs.shape.check.Given as goal

abbrev pub invariant-loop-rest : goal.invariant-loop-rest
invariant-loop-rest l = record {
  within : l.shape.open_groups + length l.rest ≤ length l.text;
  looked : Looked l.text l.rest l.shape;
  well : GoesWell l.text l.rest l.shape;
}

abbrev pub decreases-loop-rest : goal.decreases-loop-rest
decreases-loop-rest l = length l.rest
