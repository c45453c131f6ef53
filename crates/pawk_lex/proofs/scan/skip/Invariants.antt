use Rattle.std.proofs.Common.{◌≡◌, length}
use Rattle.pawk_lex.specs.Gaps.{skip}
use Rattle.pawk_lex.proofs.scan.skip.Given as goal

abbrev pub invariant-loop-text : goal.invariant-loop-text
invariant-loop-text l = skip l.text ≡ skip l.initial.text

abbrev pub decreases-loop-text : goal.decreases-loop-text
decreases-loop-text l = length l.text
