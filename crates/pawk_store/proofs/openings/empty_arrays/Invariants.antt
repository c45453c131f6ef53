use Rattle.std.proofs.Common.{◌≡◌, [], replicate}
use Rattle.pawk_store.proofs.openings.empty_arrays.Given as goal

abbrev pub invariant-loop : goal.invariant-loop
invariant-loop l = l.arrays.items ≡ replicate l.counter []
