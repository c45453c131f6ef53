use Rattle.std.proofs.Common.{rules}
use Rattle.pawk_lex.specs.Strings.{octal_escape}
use Rattle.pawk_lex.proofs.strings.octal_escape.Goals as goal

pub returns-then-two-lt32-clause-value : goal.returns-then-two-lt32-clause-value
unfolding octal_escape
returns-then-two-lt32-clause-value c = search rules depth 3
