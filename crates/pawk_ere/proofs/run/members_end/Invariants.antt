use Rattle.std.proofs.Common.{length, ◌-◌, ◌≤◌}
use Rattle.pawk_ere_automaton.specs.Members.{members_of}
use Rattle.pawk_ere.specs.Runs.{AllHold}
use Rattle.pawk_ere.proofs.run.members_end.Given as goal

abbrev pub invariant-loop-end : goal.invariant-loop-end
invariant-loop-end l = record {
  after : l.from ≤ l.end;
  within' : l.end ≤ length l.text;
  all : AllHold (members_of l.set) l.text l.from l.end;
}

abbrev pub decreases-loop-end : goal.decreases-loop-end
decreases-loop-end l = length l.text - l.end
