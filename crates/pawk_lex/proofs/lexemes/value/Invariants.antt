use Rattle.std.proofs.Common.{◌≡◌, length}
use Rattle.pawk_lex.specs.Next.{value_from}
use Rattle.pawk_lex.proofs.lexemes.value.Given as goal

abbrev pub invariant-loop-digits : goal.invariant-loop-digits
invariant-loop-digits l = value_from l.number l.digits ≡ value_from 0 l.initial.digits

abbrev pub decreases-loop-digits : goal.decreases-loop-digits
decreases-loop-digits l = length l.digits
