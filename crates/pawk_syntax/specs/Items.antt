-- Tokens that are read as items.
use Rattle.std.specs.Prelude.{◌≡◌, List, [], Some, None, true, Option}
use Rattle.pawk_lex.specs.declared.refusal.SyntaxRefusal.{SyntaxRefusal}
use Rattle.pawk_lex.specs.Tokens.{Tok}
use Rattle.pawk_syntax_tree.specs.Item.{Part}
use Rattle.pawk_syntax_tree.specs.ItemParse.{program}
use Rattle.pawk_syntax_grammar.specs.Brackets.{are_few}

-- these tokens, after which the text ends or is refused, are read as these items
pub record AreRead (ts : List Tok) (refusal : Option SyntaxRefusal) (xs : List Part) : Type 0 where
  pub whole : refusal ≡ None
  pub few : are_few 0 ts ≡ true
  pub items : program ts ≡ Some (xs, [])
