use Rattle.std.proofs.Common.{◌≡◌, [], length}
use Rattle.pawk_lex.specs.Strings.{decode}
use Rattle.pawk_lex.proofs.strings.decode.Given as goal

abbrev pub invariant-loop-byte : goal.invariant-loop-byte
invariant-loop-byte l = decode 0 l.decoded.items l.text ≡ decode 0 [] l.initial.text

abbrev pub decreases-loop-byte : goal.decreases-loop-byte
decreases-loop-byte l = length l.text
