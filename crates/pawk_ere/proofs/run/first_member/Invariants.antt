use Rattle.std.proofs.Common.{length, ◌-◌, ◌≤◌}
use Rattle.pawk_ere_automaton.specs.Members.{members_of}
use Rattle.pawk_ere.specs.Runs.{NoneHolds}
use Rattle.pawk_ere.proofs.run.first_member.Given as goal

abbrev pub invariant-loop-place : goal.invariant-loop-place
invariant-loop-place l = record {
  after : l.from ≤ l.place;
  within' : l.place ≤ length l.text;
  none : NoneHolds (members_of l.set) l.text l.from l.place;
}

abbrev pub decreases-loop-place : goal.decreases-loop-place
decreases-loop-place l = length l.text - l.place
