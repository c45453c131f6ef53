-- The state of a lexer.
use Rattle.pawk_lex.specs.declared.lexer.Lexer.{Lexer}
use Rattle.pawk_lex.specs.Reads.{State}

abbrev pub state : Lexer → State
state l = record { size = l.size; rest = l.rest.now; divides = l.divides; last_refusal = l.refusal }
