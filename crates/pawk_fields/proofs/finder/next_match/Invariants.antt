use Rattle.std.proofs.Common.{◌-◌, ◌≤◌, length, ◌≡◌}
use Rattle.pawk_fields.proofs.BetweenLemmas.{NoneUpTo}
use Rattle.pawk_fields.proofs.finder.next_match.Given as goal

abbrev pub invariant-loop-start : goal.invariant-loop-start
invariant-loop-start g l = record {
  after : l.from ≤ l.place;
  within : l.place ≤ length l.text;
  none : NoneUpTo l.pattern l.text l.from l.place;
  finder : l.finder ≡ l.initial.finder;
  misses : g.F.Finder.are_misses l.initial.finder l.text l.misses;
}

abbrev pub decreases-loop-start : goal.decreases-loop-start
decreases-loop-start g l = length l.text - l.place
