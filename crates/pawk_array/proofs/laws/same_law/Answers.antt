use Rattle.pawk_array.proofs.LawLemmas.{same_holds}
use Rattle.pawk_array.proofs.laws.same_law.Goals as goal

pub returns : goal.returns
returns c = same_holds
