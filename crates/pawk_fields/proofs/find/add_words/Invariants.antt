use Rattle.std.proofs.Common.{◌≡◌, ◌≤◌, ◌+◌, ◌-◌, ◌*◌, ◌^◌, ◌++◌, None, length, map, drop, true}
use Rattle.pawk_fields.specs.FieldSeparator.{range_of}
use Rattle.pawk_fields.specs.Splits.{words_from}
use Rattle.pawk_fields.proofs.WordBits.{changes, part}
use Rattle.pawk_fields.proofs.find.add_words.Given as goal

abbrev pub invariant-loop-start : goal.invariant-loop-start
invariant-loop-start l = record {
  low : l.block ≤ l.place;
  high : l.place ≤ length l.text;
  near : l.place ≤ l.block + 32;
  left : l.changes ≡ 2 ^ (l.place - l.block) * changes true (part (32 - (l.place - l.block)) (drop l.place l.text));
  same : l.ranges.items ++ map range_of (words_from None l.place (drop l.place l.text)) ≡ l.initial.ranges.items ++ map range_of (words_from None l.block (drop l.block l.text));
  more : length l.initial.ranges.items ≤ length l.ranges.items;
  moved : length l.ranges.items ≤ length l.initial.ranges.items + (l.place - l.block);
}

abbrev pub decreases-loop-start : goal.decreases-loop-start
decreases-loop-start l = l.block + 32 - l.place
