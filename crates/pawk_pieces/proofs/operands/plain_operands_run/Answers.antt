use Rattle.pawk_pieces.proofs.PlainLemmas.{plain}
use Rattle.pawk_pieces.proofs.operands.plain_operands_run.Goals as goal

pub returns : goal.returns
returns c = plain (c.files_follow.ensures.files tt) c.faults_follow.ensures.files c.admission_allows.ensures
