use Rattle.std.proofs.Common.{◌≡◌, ℕ, Bool, true}
use Rattle.std.specs.List.{list_all}
use Rattle.pawk_syntax_check.specs.Marks.{unmarked_count, meets_numbers, IsForced}
use Rattle.pawk_syntax_check.proofs.marks.spread.Given as goal

abbrev pub invariant-loop : goal.invariant-loop
invariant-loop l = (k : ℕ → Bool) → list_all (meets_numbers k) l.demands ≡ true → IsForced k l.fn.marks → IsForced k l.marks

abbrev pub decreases-loop : goal.decreases-loop
decreases-loop l = unmarked_count l.marks
