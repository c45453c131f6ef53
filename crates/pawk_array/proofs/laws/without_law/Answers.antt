use Rattle.pawk_array.proofs.LawLemmas.{without_holds}
use Rattle.pawk_array.proofs.laws.without_law.Goals as goal

pub returns : goal.returns
returns c = without_holds
