use Rattle.pawk_ere_syntax.proofs.OneCause.{one_cause}
use Rattle.pawk_ere_syntax.proofs.laws.a_text_has_one_cause.Goals as goal

pub returns : goal.returns
returns c = one_cause
