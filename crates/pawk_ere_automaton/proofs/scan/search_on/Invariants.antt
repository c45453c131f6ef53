use Rattle.std.proofs.Common.{ℕ, ◌<◌, ◌≤◌}
use Rattle.pawk_ere_syntax.specs.Pattern.{StartsNone}
use Rattle.pawk_ere_automaton.specs.Misses.{AreMissesOf}
use Rattle.pawk_ere_automaton.specs.Regex.{Takes}
use Rattle.pawk_ere_automaton.specs.Table.{IsTable}
use Rattle.pawk_ere_automaton.specs.Tree.{regex_of}
use Rattle.pawk_ere_automaton.proofs.scan.search_on.Given as goal

abbrev pub invariant-loop-start : goal.invariant-loop-start
invariant-loop-start l = record {
  table : IsTable (regex_of l.node) l.table;
  misses : AreMissesOf (regex_of l.node) l.text l.misses;
  none : (k : ℕ) → l.from ≤ k → k < l.start → StartsNone (Takes (regex_of l.node) l.text) k;
}
