-- Operations on numbers whose conversion may have faulted.
use Rattle.std.specs.Prelude.{ℤ, Result, Ok, Err}
use Rattle.pawk_value.specs.declared.faults.Fault.{Fault}
use Rattle.pawk_value.specs.Arithmetic.{arith}
use Rattle.pawk_value.specs.declared.arithmetic.Op.{Op}
use Rattle.pawk_value.specs.declared.arithmetic.Op.TheVariants.{Add, Subtract}
use Rattle.pawk_code.specs.declared.word.Sign.{Sign}
use Rattle.pawk_code.specs.declared.word.Sign.TheVariants.{Plus, Minus}

-- the result of an operation; the fault of the left side's conversion comes first, then the right side's
abbrev pub arith_by : Op → Result ℤ Fault → Result ℤ Fault → Result ℤ Fault
arith_by op (Err f) y = Err f
arith_by op (Ok a) (Err f) = Err f
arith_by op (Ok a) (Ok b) = arith op a b

abbrev pub op_of : Sign → Op
op_of Plus = Add
op_of Minus = Subtract
