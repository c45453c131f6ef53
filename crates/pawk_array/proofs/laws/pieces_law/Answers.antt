use Rattle.pawk_array.proofs.LawLemmas.{pieces_holds}
use Rattle.pawk_array.proofs.laws.pieces_law.Goals as goal

pub returns : goal.returns
returns c = pieces_holds
