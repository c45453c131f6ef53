use Rattle.pawk_array.proofs.LawLemmas.{put_holds}
use Rattle.pawk_array.proofs.laws.put_law.Goals as goal

pub returns : goal.returns
returns c = put_holds
