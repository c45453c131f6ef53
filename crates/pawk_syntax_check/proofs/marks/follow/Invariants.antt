use Rattle.std.proofs.Common.{◌≡◌, ℕ, Bool, true}
use Rattle.std.specs.List.{list_all}
use Rattle.pawk_syntax_check.specs.Marks.{meets_numbers, IsForced}
use Rattle.pawk_syntax_check.proofs.marks.follow.Given as goal

abbrev pub invariant-loop-turn : goal.invariant-loop-turn
invariant-loop-turn l = (k : ℕ → Bool) → list_all (meets_numbers k) l.demands ≡ true → IsForced k l.fn.marks → IsForced k l.marks
