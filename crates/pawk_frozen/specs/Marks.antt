-- What a chunk notes of the cells that it adds to, sets or creates, in place of changing them.
use Rattle.std.specs.Prelude.{ℕ, ℤ, ◌+ℤ◌, List, [], Option, replicate, slice_set, slice_index_or}
use Rattle.std.specs.Int.{int_min, int_max}
use Rattle.std.specs.Option.{unwrap_or}
use Rattle.pawk_value.specs.Value.{Val}
use Rattle.pawk_keyed_map.specs.Keyed.{Keyed, found_or, put}
use Rattle.pawk_world.specs.Worlds.{Cell, scalar, element}

pub data Mark : Type 0 where
  -- nothing
  blank : Mark
  -- amounts were added: their sum, and the least and the greatest of the sums of the first one, the first two, ..
  summed : ℤ → ℤ → ℤ → Mark
  -- values were set, this one last
  last_put : Val → Mark
  -- an element was created by a reference
  created : Mark

-- with one amount more
abbrev pub with_amount : ℤ → Mark → Mark
with_amount y blank = summed y y y
with_amount y (summed total least greatest) =
    summed (total +ℤ y) (int_min least (total +ℤ y)) (int_max greatest (total +ℤ y))
with_amount y (last_put v) = summed y y y
with_amount y created = summed y y y

-- marks by the keys of an array, in the order of their bytes
abbrev pub Marks : Type 0
Marks = Keyed Mark

abbrev pub mark_or_blank : Option Mark → Mark
mark_or_blank o = unwrap_or o blank

abbrev pub mark_found : List ℕ → Marks → Mark
mark_found key marks = found_or blank key marks

abbrev pub put_mark : List ℕ → Mark → Marks → Marks
put_mark key mark marks = put key mark marks

-- the marks of scalars, and of the elements of arrays, by their slots
pub record Table : Type 0 where
  pub scalars : List Mark
  pub arrays : List Marks

-- nothing noted of m scalars and n arrays
abbrev pub blank_table : ℕ → ℕ → Table
blank_table scalars arrays = record { scalars = replicate scalars blank; arrays = replicate arrays [] }

abbrev pub mark_at : Cell → Table → Mark
mark_at (scalar n) table = slice_index_or table.scalars n blank
mark_at (element n key) table = mark_found key (slice_index_or table.arrays n [])

-- a slot past the last one keeps nothing
abbrev pub with_mark : Cell → Mark → Table → Table
with_mark (scalar n) mark table = record table { scalars = slice_set table.scalars n mark }
with_mark (element n key) mark table =
    record table { arrays = slice_set table.arrays n (put_mark key mark (slice_index_or table.arrays n [])) }
