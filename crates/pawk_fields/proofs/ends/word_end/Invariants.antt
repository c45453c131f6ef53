use Rattle.std.proofs.Common.{◌≡◌, ◌≤◌, ◌+◌, ◌-◌, length, drop}
use Rattle.std.specs.List.{prefix_len}
use Rattle.pawk_fields.specs.Fields.{is_not_blank}
use Rattle.pawk_fields.proofs.ends.word_end.Given as goal

abbrev pub invariant-loop-place : goal.invariant-loop-place
invariant-loop-place l = record {
  within : l.place ≤ length l.text;
  same : l.place + prefix_len is_not_blank (drop l.place l.text) ≡ l.from + prefix_len is_not_blank (drop l.from l.text);
}

abbrev pub decreases-loop-place : goal.decreases-loop-place
decreases-loop-place l = length l.text - l.place
