use Rattle.std.proofs.Common.{ℕ, ◌<◌, List, slice_index_or}
use Rattle.pawk_value.specs.Conversion.{num_of}
use Rattle.pawk_world.specs.Worlds.{element}
use Rattle.pawk_store.specs.Globals.{value_at}
use Rattle.pawk_commute.specs.Settings.{FitsIfOk}
use Rattle.pawk_merge_law.proofs.numbers.read_keys.Given as goal

abbrev pub invariant-loop-number : goal.invariant-loop-number
invariant-loop-number l = (k : ℕ) → k < l.number → (d : List ℕ) → FitsIfOk (num_of (value_at (element l.array (slice_index_or l.keys k d)) l.globals))
