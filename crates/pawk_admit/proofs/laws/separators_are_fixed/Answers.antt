use Rattle.pawk_admit.proofs.Suiting.{separators_are_fixed}
use Rattle.pawk_admit.proofs.laws.separators_are_fixed.Goals as goal

pub returns : goal.returns
returns c = separators_are_fixed
