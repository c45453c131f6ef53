use Rattle.std.proofs.Common.{rules}
use Rattle.pawk_value.proofs.conversion.text_in.Goals as goal

pub returns-in-Num : goal.returns-in-Num
returns-in-Num c = search rules depth 3
