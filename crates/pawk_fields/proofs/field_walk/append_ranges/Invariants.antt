use Rattle.std.proofs.Common.{◌≡◌, ◌++◌, ◌≤◌, map, length, take, vec_len}
use Rattle.std.specs.Option.{ForSome}
use Rattle.pawk_fields.specs.FieldSeparator.{range_of, ranges_by, ranges_from}
use Rattle.pawk_fields.proofs.SplitLemmas.{left_of}
use Rattle.pawk_fields.proofs.field_walk.append_ranges.Given as goal

abbrev pub invariant-loop-next : goal.invariant-loop-next
invariant-loop-next l = record {
  within : ForSome l.next (λ p. p ≤ length l.text);
  kept : take l.length l.ranges.items ≡ l.initial.ranges.items;
  long : l.length ≤ vec_len l.ranges;
  added : l.ranges.items ++ map range_of (ranges_from l.separator l.text l.next) ≡ l.initial.ranges.items ++ map range_of (ranges_by l.separator l.text);
}

abbrev pub decreases-loop-next : goal.decreases-loop-next
decreases-loop-next l = left_of l.next (length l.text)
