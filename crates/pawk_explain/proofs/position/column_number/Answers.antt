use Rattle.std.proofs.Common.{arith}
use Rattle.pawk_explain.proofs.ColumnLemmas.{column_is}
use Rattle.pawk_explain.proofs.position.column_number.Goals as goal
use Rattle.pawk_explain.proofs.position.column_number.Goals.{then-loop-start-test+else-before-start-ne10, else-loop-start-test}

pub returns : goal.returns
returns c = elim c.loop-start-test.branch [
  | then-loop-start-test+else-before-start-ne10 w ↦ column_is _ _ c.loop-start.invariant.0 c.loop-start.invariant.1 (λ h. w.if-before-start-ne10.false)
  | else-loop-start-test w ↦ column_is _ _ c.loop-start.invariant.0 c.loop-start.invariant.1 (λ h. omega arith)
]
