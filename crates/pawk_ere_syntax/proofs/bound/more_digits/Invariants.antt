use Rattle.std.proofs.Common.{◌≡◌, ◌≤◌, length}
use Rattle.pawk_ere_syntax.specs.Bounds.{number_more}
use Rattle.pawk_ere_syntax.proofs.bound.more_digits.Given as goal

abbrev pub invariant-loop-rest : goal.invariant-loop-rest
invariant-loop-rest l = record {
  same : number_more l.sum l.rest ≡ number_more l.value l.text;
  small : l.sum ≤ 256;
  shorter : length l.rest ≤ length l.text;
}

abbrev pub decreases-loop-rest : goal.decreases-loop-rest
decreases-loop-rest l = length l.rest
