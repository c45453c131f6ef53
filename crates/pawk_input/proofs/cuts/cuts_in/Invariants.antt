use Rattle.std.proofs.Common.{◌≡◌, ℕ, ◌<◌, get_or, eqb, true}
use Rattle.pawk_input.proofs.cuts.cuts_in.Given as goal

abbrev pub invariant-loop-i : goal.invariant-loop-i
invariant-loop-i l = (k : ℕ) (d : ℕ × ℕ) → k < l.i → eqb (get_or l.cuts k d).0 l.file ≡ true
