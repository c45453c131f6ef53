use Rattle.std.proofs.Common.{◌≡◌, ◌+◌, ◌-◌, ◌≤◌, drop, length}
use Rattle.pawk_records.specs.Paragraph.{paragraph_length}
use Rattle.pawk_records.proofs.paragraphs.paragraph_length.Given as goal

abbrev pub invariant-loop-from : goal.invariant-loop-from
invariant-loop-from l = record {
  within : l.from ≤ length l.text;
  none : paragraph_length l.text ≡ l.from + paragraph_length (drop l.from l.text);
}

abbrev pub decreases-loop-from : goal.decreases-loop-from
decreases-loop-from l = length l.text - l.from
