use Rattle.pawk_ere_automaton.specs.Members.{members_of}
use Rattle.pawk_ere.specs.Runs.{AllHold}
use Rattle.pawk_ere.proofs.run.last_other.Given as goal
use Rattle.std.proofs.Common.{◌≤◌}

abbrev pub invariant-loop-place : goal.invariant-loop-place
invariant-loop-place l = record { up_to : l.place ≤ l.high; all : AllHold (members_of l.set) l.text l.place l.high }

abbrev pub decreases-loop-place : goal.decreases-loop-place
decreases-loop-place l = l.place
