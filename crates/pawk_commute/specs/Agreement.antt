-- A store with its trace, and a chunk with its table, as long as nothing parts them.
use Rattle.std.specs.Prelude.{◌≡◌, ℤ, ◌+ℤ◌, List, [], ◌∷◌, Option, Some, Ok}
use Rattle.pawk_value.specs.Range.{FitsWord}
use Rattle.pawk_value.specs.Value.{Val, Num}
use Rattle.pawk_value.specs.Conversion.{num_of}
use Rattle.pawk_array.specs.Entries.{value_of}
use Rattle.pawk_world.specs.Worlds.{Cell}
use Rattle.pawk_admit.specs.declared.role.Role.{Role}
use Rattle.pawk_admit.specs.declared.role.Role.TheVariants.{Fixed, Adder, Setter, Reader}
use Rattle.pawk_admit.specs.Roles.{Roles, role_of_array}
use Rattle.pawk_frozen.specs.Marks.{Mark, blank, summed, last_put, created, mark_at}
use Rattle.pawk_frozen.specs.Frozens.{Frozen}
use Rattle.pawk_commute.specs.Traces.{Event, Traced, mark_from}
use Rattle.pawk_commute.specs.Traces as event
use Rattle.pawk_commute.specs.Settings.{Setting, role_of_cell, HasSlots, AgreesBut, entry_at}

-- the marks that a cell of a role may have
abbrev pub Suits : Mark → Role → Type 0
Suits blank role = Unit {0}
Suits (summed total least greatest) role = role ≡ Adder
Suits (last_put v) role = role ≡ Setter
Suits created role = role ≡ Reader

-- the events of a role
abbrev pub IsLawful : Roles → Event → Type 0
IsLawful roles (event.added c y) = role_of_cell roles c ≡ Adder
IsLawful roles (event.put c v) = role_of_cell roles c ≡ Setter
IsLawful roles (event.created n key) = role_of_array roles n ≡ Reader

abbrev pub AreLawful : Roles → List Event → Type 0
AreLawful roles [] = Unit {0}
AreLawful roles (e ∷ es) = IsLawful roles e × AreLawful roles es

-- a value that amounts were added to: its number and each sum on the way were in range, and the last one is there now
pub record IsSum (before : Val) (total least greatest : ℤ) (now : Option Val) : Type 0 where
  pub number : ℤ
  pub converts : num_of before ≡ Ok number
  pub first_fits : FitsWord number
  pub sum : now ≡ Some (Num (number +ℤ total))
  pub fits : FitsWord (number +ℤ total)
  pub least_fits : FitsWord (number +ℤ least)
  pub greatest_fits : FitsWord (number +ℤ greatest)

-- what is at a cell now, by what was there before and by its mark
abbrev pub Becomes : Option Val → Mark → Option Val → Type 0
Becomes before blank now = now ≡ before
Becomes before (summed total least greatest) now = IsSum (value_of before) total least greatest now
Becomes before (last_put v) now = now ≡ Some v
Becomes before created now = now ≡ Some (value_of before)

-- adders and setters
abbrev pub IsChanged : Role → Type 0
IsChanged Fixed = ⊥
IsChanged Adder = Unit {0}
IsChanged Setter = Unit {0}
IsChanged Reader = ⊥

-- the store agrees with the fixed globals but in what may differ, the chunk has these and the table of the trace, and each
-- cell of the store is what its mark makes of what was there at the start
pub record Alike (i : Setting) (s : Traced) (t : Frozen) : Type 0 where
  pub agrees : AgreesBut i.roles i.fixed s.globals
  pub fixed : t.fixed ≡ i.fixed
  pub roles : t.roles ≡ i.roles
  pub slots : HasSlots t.table.scalars t.table.arrays i.fixed
  pub suits : (c : Cell) → Suits (mark_at c t.table) (role_of_cell i.roles c)
  pub becomes : (c : Cell) → Becomes (entry_at c i.start) (mark_at c t.table) (entry_at c s.globals)
  -- of adders and setters the table says what the trace says
  pub marks : (c : Cell) → IsChanged (role_of_cell i.roles c) → mark_at c t.table ≡ mark_from blank c s.trace
  -- an element that the records created is created in the table; one that is there may be, which an earlier chunk created
  pub creations : (c : Cell) → mark_from blank c s.trace ≡ created → mark_at c t.table ≡ created
  pub lawful : AreLawful i.roles s.trace
