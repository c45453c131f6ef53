use Rattle.std.proofs.Common.{◌≡◌, take}
use Rattle.pawk_store.proofs.copies.copy_arrays.Given as goal

abbrev pub invariant-loop-array : goal.invariant-loop-array
invariant-loop-array l = l.copy.items ≡ take l.array-index l.arrays
