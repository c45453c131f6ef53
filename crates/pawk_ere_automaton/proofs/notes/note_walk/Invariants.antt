use Rattle.std.proofs.Common.{length, ◌-◌, ◌<◌, ◌≤◌}
use Rattle.pawk_ere_automaton.specs.Misses.{AreMissesOf}
use Rattle.pawk_ere_automaton.specs.Table.{IsTable}
use Rattle.pawk_ere_automaton.specs.Tree.{regex_of}
use Rattle.pawk_ere_automaton.proofs.Walks.{KnowsAt}
use Rattle.pawk_ere_automaton.proofs.notes.note_walk.Given as goal

abbrev pub invariant-loop-place : goal.invariant-loop-place
invariant-loop-place l = record {
  after : l.from ≤ l.place;
  table : IsTable (regex_of l.node) l.table;
  misses : AreMissesOf (regex_of l.node) l.text l.misses;
  within : l.at < length l.table.states.items;
  knows : KnowsAt (regex_of l.node) l.text l.from l.place l.table.states.items l.at;
}

abbrev pub decreases-loop-place : goal.decreases-loop-place
decreases-loop-place l = l.end - l.place
