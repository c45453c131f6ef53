use Rattle.pawk_ere_syntax.proofs.BracketCauses.{bracket_cause_is}
use Rattle.pawk_ere_syntax.proofs.laws.brackets_have_causes.Goals as goal

pub returns : goal.returns
returns c = bracket_cause_is
