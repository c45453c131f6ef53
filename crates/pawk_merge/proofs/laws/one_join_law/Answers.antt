use Rattle.pawk_merge.proofs.LawLemmas.{one_join_holds}
use Rattle.pawk_merge.proofs.laws.one_join_law.Goals as goal

pub returns : goal.returns
returns c = one_join_holds
