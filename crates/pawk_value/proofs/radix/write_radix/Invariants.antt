use Rattle.std.proofs.Common.{◌≡◌, ◌<◌, ◌≤◌, ◌^◌, ◌-◌, ◌++◌, drop, map, length}
use Rattle.std.specs.Int.Digits.{digits_of}
use Rattle.pawk_value.specs.Format.{digit_byte}
use Rattle.pawk_value.proofs.radix.write_radix.Given as goal

abbrev pub invariant-loop-left : goal.invariant-loop-left
invariant-loop-left l = record {
  room : (2 ≤ l.start) × (l.start ≤ 24);
  short : l.left < 8 ^ (l.start - 2);
  whole : length l.buffer ≡ 24;
  written : map (digit_byte l.upper) (digits_of l.base l.left) ++ drop l.start l.buffer ≡ map (digit_byte l.upper) (digits_of l.base l.initial.left);
}

abbrev pub decreases-loop-left : goal.decreases-loop-left
decreases-loop-left l = l.left
