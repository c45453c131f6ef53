use Rattle.std.proofs.Common.{◌≡◌, length}
use Rattle.pawk_merge.specs.Tables.{array_takes, join_array}
use Rattle.pawk_merge.proofs.array.join_array.Given as goal

abbrev pub invariant-loop-key : goal.invariant-loop-key
invariant-loop-key l = record {
  taken : array_takes l.pairs l.elements ≡ array_takes l.fn.marks l.fn.elements;
  joined : join_array l.pairs l.elements ≡ join_array l.fn.marks l.fn.elements;
}

abbrev pub decreases-loop-key : goal.decreases-loop-key
decreases-loop-key l = length l.pairs
