use Rattle.std.proofs.Common.{◌≡◌, ◌≤◌, ◌+◌, ◌-◌, ℕ, vec_len}
use Rattle.pawk_admit.specs.Marks.{marks_at}
use Rattle.pawk_admit.proofs.marks.widen.Given as goal

abbrev pub invariant-loop-table : goal.invariant-loop-table
invariant-loop-table l = (vec_len l.fn.table ≤ vec_len l.table) × ((n : ℕ) → marks_at l.table.items n ≡ marks_at l.fn.table.items n)

abbrev pub decreases-loop-table : goal.decreases-loop-table
decreases-loop-table l = l.slot + 1 - vec_len l.table
