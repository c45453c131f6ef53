use Rattle.std.proofs.Common.{◌≡◌, ℕ, ◌<◌, ◌^◌, get_or, true, take}
use Rattle.pawk_value.specs.Bytes.{is_digit}
use Rattle.pawk_value.specs.Numeral.{digits_value}
use Rattle.pawk_value.proofs.numeral.short_digits.Given as goal

abbrev pub invariant-loop-b : goal.invariant-loop-b
invariant-loop-b l = ((k : ℕ) → k < l.b-index → is_digit (get_or l.text k 0) ≡ true) × ((l.size ≡ digits_value (take l.b-index l.text)) × (l.size < 10 ^ l.b-index))
