-- The range of numbers: 64 bits with a sign.
use Rattle.std.specs.Prelude.{ℤ, pos, negsuc, ◌≤ℤ◌, ◌^◌, ◌-◌, nat_lt, Bool, if◌then◌else◌, Result, Ok, Err}
use Rattle.pawk_value.specs.declared.faults.Fault.{Fault}
use Rattle.pawk_value.specs.declared.faults.Fault.TheVariants.{Overflow}

-- from -2^63 to 2^63 - 1
abbrev pub FitsWord : ℤ → Type 0
FitsWord z = (negsuc (2 ^ 63 - 1) ≤ℤ z) × (z ≤ℤ pos (2 ^ 63 - 1))

-- the same as a test
abbrev pub in_range : ℤ → Bool
in_range (pos n) = nat_lt n (2 ^ 63)
in_range (negsuc n) = nat_lt n (2 ^ 63)

-- the number where it is in range, else the fault
abbrev pub in_range_or_fault : ℤ → Result ℤ Fault
in_range_or_fault z = if in_range z then Ok z else Err Overflow
