use Rattle.std.proofs.Common.{◌≡◌, ◌<◌, ℕ, false}
use Rattle.pawk_admit.specs.Marks.{marks_at}
use Rattle.pawk_admit.specs.Decisions.{clashes, separates}
use Rattle.pawk_admit.proofs.decision.scalar_clashes.Given as goal

abbrev pub invariant-loop-slot : goal.invariant-loop-slot
invariant-loop-slot l = (k : ℕ) → k < l.slot → clashes l.reason (marks_at l.table k) (separates k) ≡ false
