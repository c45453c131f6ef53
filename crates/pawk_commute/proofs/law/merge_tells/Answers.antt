use Rattle.pawk_commute.proofs.MergeLemmas.{tells}
use Rattle.pawk_commute.proofs.law.merge_tells.Goals as goal

pub returns : goal.returns
returns c = tells
