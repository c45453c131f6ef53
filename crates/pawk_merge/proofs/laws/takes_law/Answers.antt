use Rattle.pawk_merge.proofs.LawLemmas.{takes_holds}
use Rattle.pawk_merge.proofs.laws.takes_law.Goals as goal

pub returns : goal.returns
returns c = takes_holds
