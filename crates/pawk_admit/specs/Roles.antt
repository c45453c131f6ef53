-- What the records do with each global, by its slot.
use Rattle.std.specs.Prelude.{ℕ, List, slice_index_or}
use Rattle.pawk_admit.specs.declared.role.Role.{Role}
use Rattle.pawk_admit.specs.declared.role.Role.TheVariants.{Fixed}
use Rattle.pawk_admit.specs.declared.role.Roles.{Roles as Code}

pub record Roles : Type 0 where
  pub scalars : List Role
  pub arrays : List Role

abbrev pub roles_view : Code → Roles
roles_view roles = record { scalars = roles.scalars.items; arrays = roles.arrays.items }

-- a slot past the last one is fixed
abbrev pub role_of_scalar : Roles → ℕ → Role
role_of_scalar roles n = slice_index_or roles.scalars n Fixed

abbrev pub role_of_array : Roles → ℕ → Role
role_of_array roles n = slice_index_or roles.arrays n Fixed
