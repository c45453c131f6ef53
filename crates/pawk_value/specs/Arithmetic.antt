-- Arithmetic (POSIX.1-2017, awk, "Expressions in awk", in whole numbers): on numbers without bound, then the range.
use Rattle.std.specs.Prelude.{ℤ, pos, negsuc, zero, suc, ◌+ℤ◌, ◌-ℤ◌, ◌*ℤ◌, Bool, true, false, if◌then◌else◌, Result, Ok, Err, int_div, int_rem}
use Rattle.std.specs.Int.{int_pow}
use Rattle.pawk_value.specs.declared.faults.Fault.{Fault}
use Rattle.pawk_value.specs.declared.faults.Fault.TheVariants.{Zero, Inexact, Exponent}
use Rattle.pawk_value.specs.declared.arithmetic.Op.{Op}
use Rattle.pawk_value.specs.declared.arithmetic.Op.TheVariants.{Add, Subtract, Multiply, Divide, Remainder, Power}
use Rattle.pawk_value.specs.Range.{in_range_or_fault}

abbrev pub is_zero : ℤ → Bool
is_zero (pos zero) = true
is_zero (pos (suc n)) = false
is_zero (negsuc n) = false

-- the quotient where there is no remainder
abbrev pub quotient : ℤ → ℤ → Result ℤ Fault
quotient x y = if is_zero y then Err Zero else (if is_zero (int_rem x y) then Ok (int_div x y) else Err Inexact)

-- the remainder has the sign of x
abbrev pub remainder : ℤ → ℤ → Result ℤ Fault
remainder x y = if is_zero y then Err Zero else Ok (int_rem x y)

-- the power 0 of each number is 1
abbrev pub power : ℤ → ℤ → Result ℤ Fault
power x (pos n) = Ok (int_pow x n)
power x (negsuc n) = Err Exponent

-- the result without bound
abbrev pub exact : Op → ℤ → ℤ → Result ℤ Fault
exact Add x y = Ok (x +ℤ y)
exact Subtract x y = Ok (x -ℤ y)
exact Multiply x y = Ok (x *ℤ y)
exact Divide x y = quotient x y
exact Remainder x y = remainder x y
exact Power x y = power x y

abbrev pub in_range_result : Result ℤ Fault → Result ℤ Fault
in_range_result (Ok z) = in_range_or_fault z
in_range_result (Err f) = Err f

-- the result where it is in range
abbrev pub arith : Op → ℤ → ℤ → Result ℤ Fault
arith op x y = in_range_result (exact op x y)
