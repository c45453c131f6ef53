use Rattle.std.proofs.Common.{ℕ, ◌<◌, slice_index_or}
use Rattle.pawk_array.specs.Entries.{Entries, Rise}
use Rattle.pawk_store.proofs.reading.order_of_arrays.Given as goal

abbrev pub invariant-loop-elements : goal.invariant-loop-elements
invariant-loop-elements l = (k : ℕ) → k < l.elements-index → (d : Entries) → Rise (slice_index_or l.arrays k d)
