-- The canonical text of expressions: each operator in round brackets, with single spaces, and what follows it.
use Rattle.std.specs.Prelude.{◌∷◌, ◌++◌, Option, Some, None}
use Rattle.pawk_lex.specs.declared.token.Mark.{Mark}
use Rattle.pawk_lex.specs.declared.token.Mark.TheVariants as m
use Rattle.pawk_lex.specs.Bytes.{Text}
use Rattle.pawk_lex.specs.Tokens.{Tok}
use Rattle.pawk_lex.specs.Tokens as t
use Rattle.pawk_lex.specs.Canonical.{token_text}
use Rattle.pawk_syntax_tree.specs.declared.tree.Single.{Single}
use Rattle.pawk_syntax_tree.specs.declared.tree.Single.TheVariants as single
use Rattle.pawk_syntax_tree.specs.Tree.{Tree, number, string, ere, variable, element, unary, binary, choice, member, call, builtin, Trees, none, more}
use Rattle.pawk_syntax_tree.specs.Levels.{sign_of}

-- ---- a token, and what follows it

abbrev pub with_token : Tok → Text → Text
with_token t rest = token_text t ++ rest

abbrev pub with_mark : Mark → Text → Text
with_mark s rest = with_token (t.mark s) rest

abbrev pub with_name : Text → Text → Text
with_name x rest = with_token (t.name x) rest

abbrev pub with_space : Text → Text
with_space rest = 32 ∷ rest

abbrev pub between_spaces : Mark → Text → Text
between_spaces s rest = with_space (with_mark s (with_space rest))

abbrev pub opening_text : Text → Text
opening_text rest = with_mark m.LeftParenthesis rest

abbrev pub closing_text : Text → Text
closing_text rest = with_mark m.RightParenthesis rest

abbrev pub comma_text : Text → Text
comma_text rest = with_mark m.Comma (with_space rest)

-- ---- operators

-- what is before and after the operand of an operator with one: `$(a)`, `(!a)`, `(++a)`, `(a++)`
abbrev pub before_text : Single → Text → Text
before_text single.Field rest = with_mark m.Dollar (opening_text rest)
before_text single.Not rest = opening_text (with_mark m.Not rest)
before_text single.Plus rest = opening_text (with_mark m.Plus rest)
before_text single.Minus rest = opening_text (with_mark m.Minus rest)
before_text single.IncrementBefore rest = opening_text (with_mark m.PlusPlus rest)
before_text single.DecrementBefore rest = opening_text (with_mark m.MinusMinus rest)
before_text _ rest = opening_text rest

abbrev pub after_text : Single → Text → Text
after_text single.IncrementAfter rest = with_mark m.PlusPlus (closing_text rest)
after_text single.DecrementAfter rest = with_mark m.MinusMinus (closing_text rest)
after_text _ rest = closing_text rest

-- what is between two operands: a sign between spaces, or a space alone
abbrev pub between_text : Option Mark → Text → Text
between_text (Some s) rest = between_spaces s rest
between_text None rest = with_space rest

-- ---- expressions

abbrev mutual
  pub tree_text : Tree → Text → Text
  tree_text (number n) rest = with_token (t.number n) rest
  tree_text (string x) rest = with_token (t.string x) rest
  tree_text (ere x) rest = with_token (t.ere x) rest
  tree_text (variable x) rest = with_name x rest
  tree_text (element x as') rest =
      with_name x (with_mark m.LeftBracket (list_text as' (with_mark m.RightBracket rest)))
  tree_text (unary op a) rest = before_text op (tree_text a (after_text op rest))
  tree_text (binary op a d) rest =
      opening_text (tree_text a (between_text (sign_of op) (tree_text d (closing_text rest))))
  tree_text (choice a d e) rest =
      opening_text (tree_text a (between_spaces m.Question (tree_text d (between_spaces m.Colon
      (tree_text e (closing_text rest))))))
  tree_text (member as' x) rest = opening_text (keys_text as' (between_spaces m.In (with_name x (closing_text rest))))
  tree_text (call f as') rest = with_token (t.function_name f) (opening_text (list_text as' (closing_text rest)))
  tree_text (builtin f as') rest = with_token (t.builtin f) (opening_text (list_text as' (closing_text rest)))

  -- the keys of `in`: several are written in brackets
  pub keys_text : Trees → Text → Text
  keys_text none rest = rest
  keys_text (more a none) rest = tree_text a rest
  keys_text (more a (more d bs)) rest =
      opening_text (tree_text a (comma_text (tree_text d (others_text bs (closing_text rest)))))

  -- expressions with a comma and a space between
  pub list_text : Trees → Text → Text
  list_text none rest = rest
  list_text (more a bs) rest = tree_text a (others_text bs rest)

  -- a comma and a space before each
  pub others_text : Trees → Text → Text
  others_text none rest = rest
  others_text (more a bs) rest = comma_text (tree_text a (others_text bs rest))
