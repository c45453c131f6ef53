use Rattle.pawk_merge.proofs.LawLemmas.{join_holds}
use Rattle.pawk_merge.proofs.laws.join_law.Goals as goal

pub returns : goal.returns
returns c = join_holds
