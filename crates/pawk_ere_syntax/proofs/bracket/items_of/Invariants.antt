use Rattle.std.proofs.Common.{◌≤◌, length}
use Rattle.pawk_ere_syntax.specs.Sets.{none}
use Rattle.pawk_ere_syntax.proofs.Causes.{SameCause}
use Rattle.pawk_ere_syntax.proofs.Items.{Same}
use Rattle.pawk_ere_syntax.proofs.bracket.items_of.Given as goal

abbrev pub invariant-loop-rest : goal.invariant-loop-rest
invariant-loop-rest l = record {
  shorter : length l.rest ≤ length l.text;
  same : Same l.text l.rest l.set.members l.first none;
  cause : SameCause l.text l.rest l.first;
}

abbrev pub decreases-loop-rest : goal.decreases-loop-rest
decreases-loop-rest l = length l.rest
