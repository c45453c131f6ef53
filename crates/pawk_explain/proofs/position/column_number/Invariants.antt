use Rattle.std.proofs.Common.{◌≡◌, ℕ, ◌<◌, ◌≤◌, length, get_or, true}
use Rattle.pawk_explain.specs.Lines.{is_in_line}
use Rattle.pawk_explain.proofs.position.column_number.Given as goal

-- the bytes from `start` on are no newlines
abbrev pub invariant-loop-start : goal.invariant-loop-start
invariant-loop-start l =
    (l.start ≤ length l.before) × ((k : ℕ) → l.start ≤ k → k < length l.before → is_in_line (get_or l.before k 0) ≡ true)

abbrev pub decreases-loop-start : goal.decreases-loop-start
decreases-loop-start l = l.start
