use Rattle.std.proofs.Common.{◌≡◌, ◌<◌, ℕ, false}
use Rattle.pawk_admit.specs.Marks.{marks_at}
use Rattle.pawk_admit.specs.Decisions.{clashes}
use Rattle.pawk_admit.proofs.decision.array_clashes.Given as goal

abbrev pub invariant-loop-marks : goal.invariant-loop-marks
invariant-loop-marks l = (k : ℕ) → k < l.marks-index → clashes l.reason (marks_at l.table k) false ≡ false
