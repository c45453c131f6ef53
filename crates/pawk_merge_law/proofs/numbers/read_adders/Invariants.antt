use Rattle.std.proofs.Common.{◌≡◌, ℕ, ◌<◌, List}
use Rattle.pawk_value.specs.Conversion.{num_of}
use Rattle.pawk_world.specs.Worlds.{element}
use Rattle.pawk_store.specs.Globals.{value_at}
use Rattle.pawk_admit.specs.declared.role.Role.TheVariants.{Adder}
use Rattle.pawk_admit.specs.Roles.{role_of_array, roles_view}
use Rattle.pawk_commute.specs.Settings.{FitsIfOk}
use Rattle.pawk_merge_law.proofs.numbers.read_adders.Given as goal

abbrev pub invariant-loop-array : goal.invariant-loop-array
invariant-loop-array l = (n : ℕ) → n < l.array → role_of_array (roles_view l.roles) n ≡ Adder → (key : List ℕ) → FitsIfOk (num_of (value_at (element n key) l.globals))
