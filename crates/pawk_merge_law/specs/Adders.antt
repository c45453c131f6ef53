-- Parts after which records may still be run in chunks.
use Rattle.std.specs.Prelude.{◌≡◌}
use Rattle.pawk_world.specs.Worlds.{Cell}
use Rattle.pawk_admit.specs.declared.role.Role.TheVariants.{Adder}
use Rattle.pawk_admit.specs.Roles.{Roles}
use Rattle.pawk_commute.specs.Settings.{role_of_cell}
use Rattle.pawk_frozen.specs.Marks.{Mark, blank, summed, last_put, created, Table, mark_at}

-- what was noted of a cell is no value that was put there
abbrev pub SetsNothing : Mark → Type 0
SetsNothing blank = Unit {0}
SetsNothing (summed total least greatest) = Unit {0}
SetsNothing (last_put v) = ⊥
SetsNothing created = Unit {0}

-- no value was put into a cell that is only added to
abbrev pub SetsNoAdder : Roles → Table → Type 0
SetsNoAdder roles table = (c : Cell) → role_of_cell roles c ≡ Adder → SetsNothing (mark_at c table)
