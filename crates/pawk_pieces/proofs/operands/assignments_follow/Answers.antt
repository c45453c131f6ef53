use Rattle.pawk_pieces.proofs.OperandLemmas.{follow}
use Rattle.pawk_pieces.proofs.operands.assignments_follow.Goals as goal

pub returns : goal.returns
returns c = follow
