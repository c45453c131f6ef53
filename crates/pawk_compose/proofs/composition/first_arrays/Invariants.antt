use Rattle.std.proofs.Common.{◌≡◌, ◌++◌}
use Rattle.std.specs.Vec.Iter.{into_iter_items}
use Rattle.pawk_compose.proofs.composition.first_arrays.Given as goal

abbrev pub invariant-loop-marks : goal.invariant-loop-marks
invariant-loop-marks l = l.first.items ++ into_iter_items l.marks-iterator ≡ l.fn.arrays.items
