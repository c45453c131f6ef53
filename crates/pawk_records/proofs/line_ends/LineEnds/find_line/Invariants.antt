use Rattle.std.proofs.Common.{◌≤◌, ◌-◌, length, take}
use Rattle.pawk_records.specs.Records.{NoSeparator}
use Rattle.pawk_records.proofs.line_ends.LineEnds.find_line.Given as goal

abbrev pub invariant-loop-from : goal.invariant-loop-from
invariant-loop-from l = record {
  within : l.from ≤ length l.text;
  none : NoSeparator l.separator (take l.from l.text);
}

abbrev pub decreases-loop-from : goal.decreases-loop-from
decreases-loop-from l = length l.text - l.from
