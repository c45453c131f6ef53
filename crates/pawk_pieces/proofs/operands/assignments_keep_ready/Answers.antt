use Rattle.pawk_pieces.proofs.OperandLemmas.{keeps_ready}
use Rattle.pawk_pieces.proofs.operands.assignments_keep_ready.Goals as goal

pub returns : goal.returns
returns c = keeps_ready
