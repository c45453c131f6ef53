-- The join of a table to globals, read cell by cell.
use Rattle.std.specs.Prelude.{◌≡◌, ◌↔◌, ◌<◌, ◌≤ℤ◌, ℕ, ℤ, ◌+ℤ◌, ◌&&◌, true, List, length, slice_get, All}
use Rattle.std.specs.Option.{option_map}
use Rattle.pawk_value.specs.Range.{in_range}
use Rattle.pawk_array.specs.Entries.{Rise, found}
use Rattle.pawk_world.specs.Worlds.{Cell, scalar, element}
use Rattle.pawk_store.specs.Globals.{Globals, array_at, value_at}
use Rattle.pawk_frozen.specs.Marks.{Table, mark_at}
use Rattle.pawk_merge.specs.Joins.{fits, takes, joined_value, joined_element}
use Rattle.pawk_merge.specs.Tables.{join_table, all_take}

-- the keys of each array rise
abbrev pub AllRise : Globals → Type 0
AllRise g = All Rise g.arrays

-- each scalar and each element of the second globals is that of the first, joined to what was noted of it
pub record AreJoined (table : Table) (g h : Globals) : Type 0 where
  pub scalars : (n : ℕ) → slice_get h.scalars n ≡ option_map (joined_value (mark_at (scalar n) table)) (slice_get g.scalars n)
  pub arrays : length h.arrays ≡ length g.arrays
  pub elements : (n : ℕ) (key : List ℕ) → n < length g.arrays →
      found key (array_at h n) ≡ joined_element (mark_at (element n key) table) (found key (array_at g n))
  pub in_order : AllRise g → AllRise h

abbrev pub JoinLaw : Type 0
JoinLaw = (table : Table) (g : Globals) → AreJoined table g (join_table table g)

-- there is one such join
abbrev pub OneJoinLaw : Type 0
OneJoinLaw = (table : Table) (g h : Globals) → AllRise g → AreJoined table g h → h ≡ join_table table g

-- all cells take what was noted, exactly where each one does
abbrev pub TakesLaw : Type 0
TakesLaw = (table : Table) (g : Globals) →
    (all_take table g ≡ true) ↔ ((c : Cell) → takes (mark_at c table) (value_at c g) ≡ true)

-- a sum that lies between the least and the greatest is a number where they are
abbrev pub ExtremesLaw : Type 0
ExtremesLaw = (total least greatest z : ℤ) → least ≤ℤ total → total ≤ℤ greatest →
    fits total least greatest z ≡ (in_range (z +ℤ least) && in_range (z +ℤ greatest))
