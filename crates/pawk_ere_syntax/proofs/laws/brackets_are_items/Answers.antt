use Rattle.pawk_ere_syntax.proofs.BracketItems.{bracket_is}
use Rattle.pawk_ere_syntax.proofs.laws.brackets_are_items.Goals as goal

pub returns : goal.returns
returns c = λ bytes rest m. bracket_is bytes m rest
