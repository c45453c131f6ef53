-- The number, the text and the truth of a value (POSIX.1-2017, awk, "Expressions in awk").
use Rattle.std.specs.Prelude.{ℕ, ℤ, zero, suc, pos, negsuc, Bool, true, false, if◌then◌else◌, List, [], ◌∷◌, Option, Some, None, Result, Ok, Err}
use Rattle.std.specs.Fmt.{signed_decimal}
use Rattle.pawk_value.specs.declared.faults.Fault.{Fault}
use Rattle.pawk_value.specs.Value.{Val, Uninit, Num, Text, Maybe}
use Rattle.pawk_value.specs.Numeral.{number_of}
use Rattle.pawk_value.specs.Look.{looks}

-- the number of a value
abbrev pub num_of : Val → Result ℤ Fault
num_of Uninit = Ok (pos 0)
num_of (Num z) = Ok z
num_of (Text s) = number_of s
num_of (Maybe s) = number_of s

-- the text of a value; a number is written in decimal digits without leading zeros, a minus before them where it is negative
abbrev pub text_of : Val → List ℕ
text_of Uninit = []
text_of (Num z) = signed_decimal z
text_of (Text s) = s
text_of (Maybe s) = s

-- a value is numeric unless it is a text, or one from outside that does not look like a numeral
abbrev pub is_numeric : Val → Bool
is_numeric Uninit = true
is_numeric (Num z) = true
is_numeric (Text s) = false
is_numeric (Maybe s) = looks s

-- the number of a value, if it is numeric
abbrev pub numeric_number : Val → Option (Result ℤ Fault)
numeric_number v = if is_numeric v then Some (num_of v) else None

-- not 0
abbrev pub is_nonzero : ℤ → Bool
is_nonzero (pos zero) = false
is_nonzero (pos (suc n)) = true
is_nonzero (negsuc n) = true

-- not empty
abbrev pub is_nonempty : List ℕ → Bool
is_nonempty [] = false
is_nonempty (b ∷ s) = true

abbrev pub nonzero_result : Result ℤ Fault → Result Bool Fault
nonzero_result (Ok z) = Ok (is_nonzero z)
nonzero_result (Err f) = Err f

-- a text from outside is true as a number where it is numeric
abbrev pub truth_of_candidate : List ℕ → Result Bool Fault
truth_of_candidate s = if looks s then nonzero_result (number_of s) else Ok (is_nonempty s)

-- a number is true where it is not 0, a text where it is not empty
abbrev pub truth_of : Val → Result Bool Fault
truth_of Uninit = Ok false
truth_of (Num z) = Ok (is_nonzero z)
truth_of (Text s) = Ok (is_nonempty s)
truth_of (Maybe s) = truth_of_candidate s
