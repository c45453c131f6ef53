use Rattle.std.proofs.Common.{◌≡◌, ◌+◌, ◌-◌, ◌≤◌, drop, get_or, length}
use Rattle.pawk_value.specs.Bytes.{is_blank}
use Rattle.pawk_fields.specs.Fields.{blank_fields}
use Rattle.pawk_fields.specs.Words.{fields_left}
use Rattle.pawk_fields.proofs.words.count_words.Given as goal

abbrev pub invariant-loop-place : goal.invariant-loop-place
invariant-loop-place l = record {
  low : 1 ≤ l.place;
  high : l.place ≤ length l.text;
  few : l.count ≤ l.place;
  left : l.count + length (fields_left (is_blank (get_or l.text (l.place - 1) 0)) (drop l.place l.text)) ≡ length (blank_fields l.text);
}

abbrev pub decreases-loop-place : goal.decreases-loop-place
decreases-loop-place l = length l.text - l.place
