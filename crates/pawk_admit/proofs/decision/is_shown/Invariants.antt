use Rattle.std.proofs.Common.{◌≡◌, ◌<◌, ℕ, Some, get_or}
use Rattle.pawk_admit.specs.declared.occurrence.Occurrence.{Occurrence}
use Rattle.pawk_admit.specs.Decisions.{reason_of}
use Rattle.pawk_admit.proofs.decision.is_shown.Given as goal

abbrev pub invariant-loop-occurrence : goal.invariant-loop-occurrence
invariant-loop-occurrence l =
    (k : ℕ) (d : Occurrence) → k < l.occurrence-index → reason_of (get_or l.list k d) ≡ Some l.reason → ⊥
