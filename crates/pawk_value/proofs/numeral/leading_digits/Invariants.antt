use Rattle.std.proofs.Common.{◌≡◌, ℕ, ◌<◌, get_or, true, take, min}
use Rattle.pawk_value.specs.Bytes.{is_digit}
use Rattle.pawk_value.specs.Numeral.{digits_value}
use Rattle.pawk_value.proofs.numeral.leading_digits.Given as goal

abbrev pub invariant-loop-i : goal.invariant-loop-i
invariant-loop-i l = ((k : ℕ) → k < l.i → is_digit (get_or l.text k 0) ≡ true) × (l.value ≡ min (digits_value (take l.i l.text)) 9223372036854775809)
