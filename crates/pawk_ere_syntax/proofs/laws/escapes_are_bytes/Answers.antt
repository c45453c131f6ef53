use Rattle.pawk_ere_syntax.proofs.EscapeNumerals.{escape_both}
use Rattle.pawk_ere_syntax.proofs.laws.escapes_are_bytes.Goals as goal

pub returns : goal.returns
returns c = escape_both
