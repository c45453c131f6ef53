use Rattle.std.proofs.Common.{◌≡◌, ◌≤◌, ℕ, ◌<◌, get_or, true, take}
use Rattle.std.specs.Char.{is_ascii_digit}
use Rattle.pawk_words.specs.Spelling.{digits_value}
use Rattle.pawk_words.proofs.digits.leading_digits.Given as goal

abbrev pub invariant-loop-i : goal.invariant-loop-i
invariant-loop-i l = record {
  passed : (k : ℕ) → k < l.i → is_ascii_digit (get_or l.bytes k 0) ≡ true;
  size : l.size ≡ digits_value (take l.i l.bytes);
  small : l.size ≤ 10000000000000000009;
}
