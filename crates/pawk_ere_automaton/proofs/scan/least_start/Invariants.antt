use Rattle.std.proofs.Common.{ℕ, length, ◌-◌, ◌<◌, ◌≤◌}
use Rattle.pawk_ere_syntax.specs.Pattern.{StartsNone}
use Rattle.pawk_ere_automaton.specs.Misses.{AreMissesOf}
use Rattle.pawk_ere_automaton.specs.Regex.{Takes}
use Rattle.pawk_ere_automaton.specs.Table.{IsTable}
use Rattle.pawk_ere_automaton.specs.Tree.{regex_of}
use Rattle.pawk_ere_automaton.proofs.scan.least_start.Given as goal

abbrev pub invariant-loop-least : goal.invariant-loop-least
invariant-loop-least l = record {
  after : l.low ≤ l.least;
  within : l.most ≤ length l.text;
  table : IsTable (regex_of l.node) l.table;
  misses : AreMissesOf (regex_of l.node) l.text l.misses;
  none : (k : ℕ) → l.low ≤ k → k < l.least → StartsNone (Takes (regex_of l.node) l.text) k;
}

abbrev pub decreases-loop-least : goal.decreases-loop-least
decreases-loop-least l = l.most - l.least
