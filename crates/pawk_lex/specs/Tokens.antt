-- Tokens without where their bytes lie in memory.
use Rattle.std.specs.Prelude.{ℕ, Bool, true, false}
use Rattle.pawk_lex.specs.Bytes.{Text}
use Rattle.pawk_lex.specs.declared.token.Mark.{Mark}
use Rattle.pawk_lex.specs.declared.token.Mark.TheVariants as m
use Rattle.pawk_lex.specs.declared.token.Builtin.{Builtin}
use Rattle.pawk_lex.specs.declared.token.TokenValue.{TokenValue}
use Rattle.pawk_lex.specs.declared.token.TokenValue.TheVariants as v

pub data Tok : Type 0 where
  number : ℕ → Tok
  string : Text → Tok
  ere : Text → Tok
  name : Text → Tok
  function_name : Text → Tok
  builtin : Builtin → Tok
  mark : Mark → Tok

-- what a token's value is
abbrev pub tok : TokenValue → Tok
tok (v.Number n) = number n
tok (v.String bytes) = string bytes.items
tok (v.Ere bytes) = ere bytes.items
tok (v.Name bytes) = name bytes.items
tok (v.FunctionName bytes) = function_name bytes.items
tok (v.Builtin f) = builtin f
tok (v.Mark x) = mark x

abbrev pub mark_divides : Mark → Bool
mark_divides m.RightParenthesis = true
mark_divides m.RightBracket = true
mark_divides m.PlusPlus = true
mark_divides m.MinusMinus = true
mark_divides _ = false

-- whether a slash after this token divides; after any other one, and at the beginning, it opens an expression
-- (POSIX.1-2017, awk, "Lexical Conventions": the ambiguity between ERE and the tokens '/' and DIV_ASSIGN)
abbrev pub divides_after : Tok → Bool
divides_after (mark x) = mark_divides x
divides_after _ = true
