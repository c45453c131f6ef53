use Rattle.std.proofs.Common.{length, ◌-◌, ◌<◌, ◌≤◌}
use Rattle.pawk_ere_automaton.specs.Table.{IsTable}
use Rattle.pawk_ere_automaton.specs.Tree.{regex_of}
use Rattle.pawk_ere_automaton.proofs.Walks.{BestBefore, KnowsAt}
use Rattle.pawk_ere_automaton.proofs.scan.longest_until.Given as goal

abbrev pub invariant-loop-place : goal.invariant-loop-place
invariant-loop-place l = record {
  after : l.from ≤ l.place;
  inside : l.place ≤ length l.text;
  table : IsTable (regex_of l.node) l.table;
  within : l.at < length l.table.states.items;
  knows : KnowsAt (regex_of l.node) l.text l.from l.place l.table.states.items l.at;
  best : BestBefore (regex_of l.node) l.text l.from l.place l.best;
}

abbrev pub decreases-loop-place : goal.decreases-loop-place
decreases-loop-place l = length l.text - l.place
