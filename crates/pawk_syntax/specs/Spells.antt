-- What an awk program's text means (POSIX.1-2017, awk, "Grammar" and "Lexical Conventions").
use Rattle.std.specs.Prelude.{◌≡◌, List, true}
use Rattle.pawk_lex.specs.Bytes.{Text}
use Rattle.pawk_lex.specs.Tokens.{Tok}
use Rattle.pawk_lex.specs.Cut.{Cut}
use Rattle.pawk_syntax_tree.specs.Item.{Part, AreLow}
use Rattle.pawk_syntax_tree.specs.ItemGrammar.{Programs}
use Rattle.pawk_syntax_check.specs.Fits.{Fits}
use Rattle.pawk_syntax_grammar.specs.Brackets.{are_few}
use Rattle.pawk_syntax_grammar.specs.Expressions.{eres_of_program}
use Rattle.pawk_syntax_grammar.specs.ExpressionReads.{AreExpressions}

-- The text is cut into tokens, which derive the program; what is between slashes are regular
-- expressions; the names, calls and words of the program fit; no item is too high, and never are too
-- many brackets open.
pub record Spells (text : Text) (xs : List Part) : Type 0 where
  pub tokens : List Tok
  pub cut : Cut text tokens
  pub derived : Programs tokens xs
  pub expressions : AreExpressions (eres_of_program xs)
  pub fits : Fits xs
  pub low : AreLow xs
  pub few : are_few 0 tokens ≡ true

-- some text spells the program
abbrev pub IsSpelled : List Part → Type 0
IsSpelled xs = (text : Text) × Spells text xs
