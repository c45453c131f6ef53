use Rattle.std.proofs.Common.{◌≡◌, ◌+◌, ◌-◌, ◌<◌, ◌≤◌, ℕ, length}
use Rattle.std.specs.Prelude.{slice_index}
use Rattle.pawk_ere_automaton.proofs.scan.row_end.Given as goal

abbrev pub invariant-loop-end : goal.invariant-loop-end
invariant-loop-end l = record {
  after : l.place ≤ l.end;
  within : l.end ≤ length l.text;
  idle : (k : ℕ) → l.place ≤ k → k < l.end → slice_index l.table.next.items (768 + slice_index l.text k) ≡ 3;
}

abbrev pub decreases-loop-end : goal.decreases-loop-end
decreases-loop-end l = length l.text - l.end
