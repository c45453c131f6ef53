use Rattle.std.proofs.Common.{length, ◌-◌, ◌<◌, ◌≤◌}
use Rattle.pawk_ere_automaton.specs.Table.{IsTable}
use Rattle.pawk_ere_automaton.specs.Tree.{regex_of}
use Rattle.pawk_ere_automaton.proofs.Walks.{KnowsAllAt, NoneYet}
use Rattle.pawk_ere_automaton.proofs.scan.first_start.Given as goal

abbrev pub invariant-loop-place : goal.invariant-loop-place
invariant-loop-place l = record {
  inside : l.place ≤ length l.text;
  table : IsTable (regex_of l.node) l.table;
  within : l.at < length l.table.states.items;
  knows : KnowsAllAt (regex_of l.node) l.text l.from l.place l.table.states.items l.at;
  none : NoneYet (regex_of l.node) l.text l.from l.place l.begin;
}

abbrev pub decreases-loop-place : goal.decreases-loop-place
decreases-loop-place l = length l.text - l.place
