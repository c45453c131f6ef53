use Rattle.std.proofs.Common.{◌≡◌, ◌≤◌, ◌++◌, length, map}
use Rattle.std.specs.Option.{ForSome}
use Rattle.pawk_fields.specs.FieldSeparator.{range_of, ranges_from}
use Rattle.pawk_fields.specs.FieldWalks.{most_left}
use Rattle.pawk_record.proofs.splitter.find_until.Given as goal

abbrev pub invariant-loop-next : goal.invariant-loop-next
invariant-loop-next l =
    (l.ranges.items ++ map range_of (ranges_from l.separator l.text l.next) ≡ l.initial.ranges.items ++ map range_of (ranges_from l.separator l.text l.initial.next))
    × ForSome l.next (λ p. p ≤ length l.text)
    × (length l.initial.ranges.items ≤ length l.ranges.items)

abbrev pub decreases-loop-next : goal.decreases-loop-next
decreases-loop-next l = most_left l.next l.text
