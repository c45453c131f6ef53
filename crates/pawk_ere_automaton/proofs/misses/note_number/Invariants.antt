use Rattle.std.proofs.Common.{◌≡◌, ◌+◌, ◌-◌, ℕ, true, false, length, get_or}
use Rattle.pawk_ere_automaton.proofs.misses.note_number.Given as goal

abbrev pub invariant-loop-silent : goal.invariant-loop-silent
invariant-loop-silent l = record {
  same : (i : ℕ) → get_or l.silent.items i false ≡ true → get_or l.initial.silent.items i false ≡ true;
}

abbrev pub decreases-loop-silent : goal.decreases-loop-silent
decreases-loop-silent l = l.number + 1 - length l.silent.items
