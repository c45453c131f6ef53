use Rattle.std.proofs.Common.{◌≡◌, ℕ, ◌<◌, get_or, true}
use Rattle.pawk_fields.specs.Fields.{is_not_blank}
use Rattle.pawk_fields.proofs.blanks.word_length.Given as goal

abbrev pub invariant-loop-i : goal.invariant-loop-i
invariant-loop-i l = (k : ℕ) → k < l.i → is_not_blank (get_or l.text k 0) ≡ true
