use Rattle.std.proofs.Common.{◌≡◌, ◌≤◌, length}
use Rattle.pawk_lex.specs.Gaps.{pass}
use Rattle.pawk_lex.specs.Strings.{ere_length}
use Rattle.pawk_lex.proofs.strings.after_ere.Given as goal

abbrev pub invariant-loop-text : goal.invariant-loop-text
invariant-loop-text l = (pass ere_length 0 l.text ≡ pass ere_length 0 l.initial.text) × (length l.text ≤ length l.initial.text)

abbrev pub decreases-loop-text : goal.decreases-loop-text
decreases-loop-text l = length l.text
