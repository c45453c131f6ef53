use Rattle.std.proofs.Common.{◌+◌, ◌-◌, ℕ, List, length}
use Rattle.std.specs.List.{All}
use Rattle.pawk_ere_automaton.specs.Misses.{IsRowOf}
use Rattle.pawk_ere_automaton.specs.Regex.{Regex}
use Rattle.pawk_ere_automaton.proofs.misses.add_rows.Given as goal

abbrev pub invariant-loop-alloc : goal.invariant-loop-alloc
invariant-loop-alloc l = record {
  rows : (e : Regex) (text : List ℕ) → All (IsRowOf e text) l.initial.rows.items → All (IsRowOf e text) l.rows.items;
}

abbrev pub decreases-loop-alloc : goal.decreases-loop-alloc
decreases-loop-alloc l = l.at + 1 - length l.rows.items
