-- What becomes of one cell, where what a chunk noted of it is joined to the globals.
use Rattle.std.specs.Prelude.{ℤ, ◌+ℤ◌, ◌&&◌, Bool, true, false, Option, Some, Result, Ok, Err}
use Rattle.pawk_value.specs.declared.faults.Fault.{Fault}
use Rattle.pawk_value.specs.Range.{in_range}
use Rattle.pawk_value.specs.Value.{Val, Uninit, Num}
use Rattle.pawk_value.specs.Conversion.{num_of}
use Rattle.pawk_array.specs.Entries.{value_of}
use Rattle.pawk_frozen.specs.Marks.{Mark, blank, summed, last_put, created}

-- from this number on the sum of all amounts, and the least and the greatest of the sums on the way, are numbers
abbrev pub fits : ℤ → ℤ → ℤ → ℤ → Bool
fits total least greatest z = in_range (z +ℤ total) && in_range (z +ℤ least) && in_range (z +ℤ greatest)

-- the same, where there is a number
abbrev pub holds_for : (ℤ → Bool) → Result ℤ Fault → Bool
holds_for p (Ok z) = p z
holds_for p (Err f) = false

-- a cell that had this value takes what was noted: amounts, where the value has a number from which all sums fit
abbrev pub takes : Mark → Val → Bool
takes blank v = true
takes (summed total least greatest) v = holds_for (fits total least greatest) (num_of v)
takes (last_put w) v = true
takes created v = true

abbrev pub number_plus : ℤ → Result ℤ Fault → Val
number_plus total (Ok z) = Num (z +ℤ total)
number_plus total (Err f) = Uninit

-- what a cell has then: the sum with its first value's number, the value that was set last, else what it had
abbrev pub joined_value : Mark → Val → Val
joined_value blank v = v
joined_value (summed total least greatest) v = number_plus total (num_of v)
joined_value (last_put w) v = w
joined_value created v = v

-- the same of an element, which may not be there; one of which something was noted then is
abbrev pub joined_element : Mark → Option Val → Option Val
joined_element blank o = o
joined_element (summed total least greatest) o = Some (joined_value (summed total least greatest) (value_of o))
joined_element (last_put w) o = Some w
joined_element created o = Some (value_of o)
