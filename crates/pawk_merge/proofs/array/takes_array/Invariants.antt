use Rattle.std.proofs.Common.{◌≡◌, length}
use Rattle.pawk_store.specs.Globals.{array_at}
use Rattle.pawk_merge.specs.Tables.{array_takes}
use Rattle.pawk_merge.proofs.array.takes_array.Given as goal

abbrev pub invariant-loop-key : goal.invariant-loop-key
invariant-loop-key l = array_takes l.pairs (array_at l.fn.globals l.fn.array) ≡ array_takes l.fn.marks (array_at l.fn.globals l.fn.array)

abbrev pub decreases-loop-key : goal.decreases-loop-key
decreases-loop-key l = length l.pairs
