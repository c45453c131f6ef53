-- Globals with their trace, and the arrays that are noted.
use Rattle.std.specs.Prelude.{◌≡◌, ◌↔◌, ℕ, List, Contains}
use Rattle.pawk_admit.specs.declared.role.Role.TheVariants.{Reader}
use Rattle.pawk_admit.specs.Roles.{Roles, role_of_array}
use Rattle.pawk_commute.specs.Traces.{Event, created, Traced}

pub record Noted : Type 0 where
  pub traced : Traced
  pub arrays : List ℕ

-- these are the arrays in which a reference creates an element
abbrev pub AreNoted : List ℕ → List Event → Type 0
AreNoted arrays trace = (n : ℕ) → Contains arrays n ↔ ((key : List ℕ) × Contains trace (created n key))

-- a reference creates an element of an array that is no reader array
abbrev pub CreatesElement : Roles → List Event → Type 0
CreatesElement roles trace =
    (array : ℕ) × (key : List ℕ) × (¬ (role_of_array roles array ≡ Reader)) × Contains trace (created array key)
