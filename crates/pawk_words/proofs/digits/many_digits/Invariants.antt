use Rattle.std.proofs.Common.{◌≡◌, ℕ, ◌<◌, get_or, true, take, min}
use Rattle.std.specs.Char.{is_ascii_digit}
use Rattle.pawk_words.specs.Spelling.{digits_value}
use Rattle.pawk_words.proofs.digits.many_digits.Given as goal

abbrev pub invariant-loop-i : goal.invariant-loop-i
invariant-loop-i l = record {
  passed : (k : ℕ) → k < l.i → is_ascii_digit (get_or l.bytes k 0) ≡ true;
  size : l.size ≡ min (digits_value (take l.i l.bytes)) 18446744073709551617;
}
