use Rattle.std.proofs.Common.{◌≡◌, ◌≤◌, ◌-◌, ◌++◌, None, length, map, drop}
use Rattle.pawk_fields.specs.FieldSeparator.{range_of}
use Rattle.pawk_fields.specs.Splits.{words_from}
use Rattle.pawk_fields.proofs.find.find_from.Given as goal

abbrev pub invariant-loop-place : goal.invariant-loop-place
invariant-loop-place l = record {
  same : l.ranges.items ++ map range_of (words_from None l.place (drop l.place l.text)) ≡ l.initial.ranges.items ++ map range_of (words_from None l.initial.place (drop l.initial.place l.text));
  more : length l.initial.ranges.items ≤ length l.ranges.items;
}

abbrev pub decreases-loop-place : goal.decreases-loop-place
decreases-loop-place l = length l.text - l.place
