use Rattle.pawk_ere_automaton.specs.Members.{members_of}
use Rattle.std.proofs.Common.{length, ◌-◌, ◌≤◌}
use Rattle.pawk_ere.proofs.Runs.{NoRun}
use Rattle.pawk_ere.proofs.run.search_run.Given as goal

abbrev pub invariant-loop-start : goal.invariant-loop-start
invariant-loop-start l = record {
  after : l.from ≤ l.start;
  within' : l.start ≤ length l.text;
  none : NoRun (members_of l.set) l.text l.count l.from l.start;
}

abbrev pub decreases-loop-start : goal.decreases-loop-start
decreases-loop-start l = length l.text - l.start
