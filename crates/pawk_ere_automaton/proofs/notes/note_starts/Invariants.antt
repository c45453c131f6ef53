use Rattle.std.proofs.Common.{length, ◌+◌, ◌-◌, ◌<◌, ◌≤◌}
use Rattle.pawk_ere_automaton.specs.Misses.{AreMissesOf}
use Rattle.pawk_ere_automaton.specs.Table.{IsTable}
use Rattle.pawk_ere_automaton.specs.Tree.{regex_of}
use Rattle.pawk_ere_automaton.proofs.Walks.{KnowsAllAt}
use Rattle.pawk_ere_automaton.proofs.Silent.{ComesFromAt}
use Rattle.pawk_ere_automaton.proofs.notes.note_starts.Given as goal

abbrev pub invariant-loop-place : goal.invariant-loop-place
invariant-loop-place l = record {
  after : l.low ≤ l.place;
  up_to : l.place ≤ l.high + 1;
  table : IsTable (regex_of l.node) l.table;
  within : l.at < length l.table.states.items;
  knows : KnowsAllAt (regex_of l.node) l.text l.low l.place l.table.states.items l.at;
}

abbrev pub decreases-loop-place : goal.decreases-loop-place
decreases-loop-place l = (l.high + 1) - l.place

abbrev pub invariant-later : goal.invariant-later
invariant-later l = record {
  table : IsTable (regex_of l.node) l.table;
  misses : AreMissesOf (regex_of l.node) l.text l.misses;
  within : l.at < length l.table.states.items;
  comes : ComesFromAt (regex_of l.node) l.text l.low l.high l.place l.table.states.items l.at;
}

abbrev pub decreases-later : goal.decreases-later
decreases-later l = l.end - l.place
