use Rattle.pawk_ere_syntax.proofs.BoundNumerals.{bound_is}
use Rattle.pawk_ere_syntax.proofs.laws.bounds_are_numerals.Goals as goal

pub returns : goal.returns
returns c = bound_is
