use Rattle.std.proofs.Common.{ℕ, ◌<◌}
use Rattle.pawk_value.specs.Conversion.{num_of}
use Rattle.pawk_world.specs.Worlds.{scalar}
use Rattle.pawk_store.specs.Globals.{value_at}
use Rattle.pawk_commute.specs.Settings.{FitsIfOk}
use Rattle.pawk_merge_law.proofs.numbers.read_scalars.Given as goal

abbrev pub invariant-loop-slot : goal.invariant-loop-slot
invariant-loop-slot l = (n : ℕ) → n < l.slot → FitsIfOk (num_of (value_at (scalar n) l.globals))
