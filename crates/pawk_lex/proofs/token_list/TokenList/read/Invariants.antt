use Rattle.std.proofs.Common.{length}
use Rattle.pawk_lex.specs.Lexing.{state}
use Rattle.pawk_lex.specs.TokenLists.{values}
use Rattle.pawk_lex.proofs.Readings.{IsGoing}
use Rattle.pawk_lex.proofs.token_list.TokenList.read.Given as goal

abbrev pub invariant-loop-token : goal.invariant-loop-token
invariant-loop-token l = IsGoing l.text (values l.tokens.items) (state l.lexer)

abbrev pub decreases-loop-token : goal.decreases-loop-token
decreases-loop-token l = length l.lexer.rest.now
