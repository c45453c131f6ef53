-- The canonical tokens of a tree, with each operator in brackets, and the trees that have them.
use Rattle.std.specs.Prelude.{◌≡◌, ℕ, suc, max, List, ◌∷◌, Option, Some, None}
use Rattle.pawk_lex.specs.declared.token.Mark.{Mark}
use Rattle.pawk_lex.specs.declared.token.Mark.TheVariants as m
use Rattle.pawk_lex.specs.declared.token.Builtin.{Builtin}
use Rattle.pawk_lex.specs.Tokens.{Tok}
use Rattle.pawk_lex.specs.Tokens as t
use Rattle.pawk_syntax_tree.specs.declared.tree.Single.{Single}
use Rattle.pawk_syntax_tree.specs.declared.tree.Single.TheVariants as single
use Rattle.pawk_syntax_tree.specs.declared.tree.Double.{Double}
use Rattle.pawk_syntax_tree.specs.declared.tree.Double.TheVariants as double
use Rattle.pawk_syntax_tree.specs.Tree.{Tree, number, string, ere, variable, element, unary, binary, choice, member, call, builtin, Trees, none, more, value, right_side, argument, complete}
use Rattle.pawk_syntax_tree.specs.Levels.{sign_of}

abbrev pub opening : List Tok → List Tok
opening rest = t.mark m.LeftParenthesis ∷ rest

abbrev pub closing : List Tok → List Tok
closing rest = t.mark m.RightParenthesis ∷ rest

-- the tokens of an operator with one operand, around those of the operand
abbrev pub around : Single → (List Tok → List Tok) → List Tok → List Tok
around single.Field a rest = t.mark m.Dollar ∷ opening (a (closing rest))
around single.Not a rest = opening (t.mark m.Not ∷ a (closing rest))
around single.Plus a rest = opening (t.mark m.Plus ∷ a (closing rest))
around single.Minus a rest = opening (t.mark m.Minus ∷ a (closing rest))
around single.IncrementBefore a rest = opening (t.mark m.PlusPlus ∷ a (closing rest))
around single.DecrementBefore a rest = opening (t.mark m.MinusMinus ∷ a (closing rest))
around single.IncrementAfter a rest = opening (a (t.mark m.PlusPlus ∷ closing rest))
around single.DecrementAfter a rest = opening (a (t.mark m.MinusMinus ∷ closing rest))

abbrev pub between_by : Option Mark → List Tok → List Tok
between_by (Some s) rest = t.mark s ∷ rest
between_by None rest = rest

abbrev pub between : Double → List Tok → List Tok
between op = between_by (sign_of op)

-- the canonical tokens of a tree, and then rest
abbrev mutual
  pub canon : Tree → List Tok → List Tok
  canon (number n) rest = t.number n ∷ rest
  canon (string x) rest = t.string x ∷ rest
  canon (ere x) rest = t.ere x ∷ rest
  canon (variable x) rest = t.name x ∷ rest
  canon (element x as') rest = t.name x ∷ t.mark m.LeftBracket ∷ canon_first as' (t.mark m.RightBracket ∷ rest)
  canon (unary op a) rest = around op (canon a) rest
  canon (binary op a d) rest = opening (canon a (between op (canon d (closing rest))))
  canon (choice a d e) rest =
      opening (canon a (t.mark m.Question ∷ canon d (t.mark m.Colon ∷ canon e (closing rest))))
  canon (member as' x) rest = opening (canon_keys as' (t.mark m.In ∷ t.name x ∷ closing rest))
  canon (call f as') rest = t.function_name f ∷ opening (canon_first as' (closing rest))
  canon (builtin f as') rest = t.builtin f ∷ opening (canon_first as' (closing rest))

  -- the keys of `in`: several are written in brackets
  pub canon_keys : Trees → List Tok → List Tok
  canon_keys none rest = rest
  canon_keys (more a none) rest = canon a rest
  canon_keys (more a (more d bs)) rest =
      opening (canon a (t.mark m.Comma ∷ canon d (canon_others bs (closing rest))))

  pub canon_first : Trees → List Tok → List Tok
  canon_first none rest = rest
  canon_first (more a bs) rest = canon a (canon_others bs rest)

  pub canon_others : Trees → List Tok → List Tok
  canon_others none rest = rest
  canon_others (more a bs) rest = t.mark m.Comma ∷ canon a (canon_others bs rest)

abbrev pub IsLvalue : Tree → Type 0
IsLvalue (variable x) = Unit {0}
IsLvalue (element x as') = Unit {0}
IsLvalue (unary single.Field a) = Unit {0}
IsLvalue _ = ⊥

abbrev pub FitsSingle : Single → Tree → Type 0
FitsSingle single.IncrementBefore a = IsLvalue a
FitsSingle single.DecrementBefore a = IsLvalue a
FitsSingle single.IncrementAfter a = IsLvalue a
FitsSingle single.DecrementAfter a = IsLvalue a
FitsSingle _ a = Unit {0}

abbrev pub FitsDouble : Double → Tree → Type 0
FitsDouble double.Assign a = IsLvalue a
FitsDouble double.AddAssign a = IsLvalue a
FitsDouble double.SubtractAssign a = IsLvalue a
FitsDouble double.MultiplyAssign a = IsLvalue a
FitsDouble double.DivideAssign a = IsLvalue a
FitsDouble double.RemainderAssign a = IsLvalue a
FitsDouble double.PowerAssign a = IsLvalue a
FitsDouble _ a = Unit {0}

abbrev pub IsSome : Trees → Type 0
IsSome none = ⊥
IsSome (more a bs) = Unit {0}

-- A tree that some tokens derive: only lvalues are assigned, an expression between slashes is itself only where it may be,
-- subscripts and keys are some, and the calls of built-in functions are complete.
abbrev mutual
  pub IsSound : Tree → Type 0
  IsSound (number n) = Unit {0}
  IsSound (string x) = Unit {0}
  IsSound (ere x) = Unit {0}
  IsSound (variable x) = Unit {0}
  IsSound (element x as') = IsSome as' × AreSound None 0 as'
  IsSound (unary op a) = FitsSingle op a × (value a ≡ a) × IsSound a
  IsSound (binary op a d) = FitsDouble op a × (value a ≡ a) × (right_side op d ≡ d) × IsSound a × IsSound d
  IsSound (choice a d e) = ((value a ≡ a) × IsSound a) × ((value d ≡ d) × IsSound d) × ((value e ≡ e) × IsSound e)
  IsSound (member as' x) = IsSome as' × AreSound None 0 as'
  IsSound (call f as') = AreSound None 0 as'
  IsSound (builtin f as') = (complete f as' ≡ as') × AreSound (Some f) 0 as'

  pub AreSound : Option Builtin → ℕ → Trees → Type 0
  AreSound f place none = Unit {0}
  AreSound f place (more a bs) = (argument f place a ≡ a) × IsSound a × AreSound f (suc place) bs

-- a leaf has 1, any other node one more than its highest part
abbrev mutual
  pub height : Tree → ℕ
  height (number n) = 1
  height (string x) = 1
  height (ere x) = 1
  height (variable x) = 1
  height (element x as') = suc (highest as')
  height (unary op a) = suc (height a)
  height (binary op a d) = suc (max (height a) (height d))
  height (choice a d e) = suc (max (height a) (max (height d) (height e)))
  height (member as' x) = suc (highest as')
  height (call f as') = suc (highest as')
  height (builtin f as') = suc (highest as')

  pub highest : Trees → ℕ
  highest none = 0
  highest (more a bs) = max (height a) (highest bs)
