-- The reading of an expression, as a function on lists of tokens.
use Rattle.std.specs.Prelude.{ℕ, zero, suc, ◌+◌, Bool, true, false, ◌&&◌, if◌then◌else◌, nat_le, List, [], ◌∷◌, ◌++◌, length, drop, Option, Some, None}
use denote.Enum.Bare.{sameb}
use Rattle.pawk_lex.specs.contracts.token.Mark.{the_type}
use Rattle.pawk_lex.specs.declared.token.Mark.{Mark}
use Rattle.pawk_lex.specs.declared.token.Mark.TheVariants as m
use Rattle.pawk_lex.specs.declared.token.Builtin.{Builtin}
use Rattle.pawk_lex.specs.declared.token.Builtin.TheVariants as b
use Rattle.pawk_lex.specs.Bytes.{Text}
use Rattle.pawk_lex.specs.Tokens.{Tok}
use Rattle.pawk_lex.specs.Tokens as t
use Rattle.pawk_syntax_tree.specs.declared.tree.Single.{Single}
use Rattle.pawk_syntax_tree.specs.declared.tree.Single.TheVariants as single
use Rattle.pawk_syntax_tree.specs.declared.tree.Double.{Double}
use Rattle.pawk_syntax_tree.specs.declared.tree.Double.TheVariants as double
use Rattle.pawk_syntax_tree.specs.declared.levels.Turn.{Turn}
use Rattle.pawk_syntax_tree.specs.declared.levels.Turn.TheVariants.{Infix, Beside, Membership, Choosing, Postfix}
use Rattle.pawk_syntax_tree.specs.declared.levels.Row.{Row}
use Rattle.pawk_syntax_tree.specs.Tree.{Tree, number, string, ere, variable, element, unary, binary, choice, member, call, builtin, none, more, trees, record_tree, value, right_side, argument, complete}
use Rattle.pawk_syntax_tree.specs.Canonical.{height}
use Rattle.pawk_syntax_tree.specs.Levels.{row_of_sign, beside}

-- how high a tree may be
abbrev pub greatest_height : ℕ
greatest_height = 200

-- ---- parsers: a phrase and what follows it, or nothing
abbrev pub Outcome : Type 0 → Type 0
Outcome A = Option (A × List Tok)

abbrev pub Parser : Type 0 → Type 0
Parser A = List Tok → Outcome A

abbrev pub and_then : {A B : Type 0} → Outcome A → (A → Parser B) → Outcome B
and_then (Some p) f = f p.0 p.1
and_then None f = None

infixl 10 ◌>>=◌
abbrev pub ◌>>=◌ : {A B : Type 0} → Parser A → (A → Parser B) → Parser B
p >>= f = λ i. and_then (p i) f

infixl 10 ◌>>◌
abbrev pub ◌>>◌ : {A B : Type 0} → Parser A → Parser B → Parser B
p >> q = p >>= (λ _. q)

abbrev pub pure : {A : Type 0} → A → Parser A
pure a = λ i. Some (a, i)

abbrev pub refuse : {A : Type 0} → Parser A
refuse = λ i. None

-- a tree that is not too high
unfoldable pub low : Tree → Parser Tree
low a = λ i. if nat_le (height a) greatest_height then Some (a, i) else None

-- ---- tokens

-- `==` on marks
unfoldable pub same_mark : Mark → Mark → Bool
same_mark = sameb the_type

unfoldable pub sees : Mark → List Tok → Bool
sees s (t.mark x ∷ ts) = same_mark x s
sees s _ = false

unfoldable pub after : Mark → List Tok → List Tok
after s i = if sees s i then drop 1 i else i

-- takes the sign, if it comes next
abbrev pub eat : Mark → Parser Bool
eat s = λ i. Some (sees s i, after s i)

unfoldable pub expect : Mark → Parser (Unit {0})
expect s = λ i. if sees s i then Some (tt, drop 1 i) else None

unfoldable pub expect_name : Parser Text
expect_name (t.name x ∷ ts) = Some (x, ts)
expect_name _ = None

-- the tokens after any newlines
unfoldable pub skip_lines : List Tok → List Tok
skip_lines [] = []
skip_lines (x ∷ ts) = if sees m.Newline (x ∷ ts) then skip_lines ts else x ∷ ts

abbrev pub lines : Parser (Unit {0})
lines = λ i. Some (tt, skip_lines i)

-- the tokens after an operator
unfoldable pub after_op : Double → List Tok → List Tok
after_op double.Or ts = skip_lines ts
after_op double.And ts = skip_lines ts
after_op _ ts = ts

-- what the next token does after an operand of the level top
unfoldable pub row_at : Bool → ℕ → List Tok → Option Row
row_at compares top [] = None
row_at compares top (t.mark s ∷ ts) = row_of_sign compares top s
row_at compares top (x ∷ ts) = beside

-- ---- expressions

-- an operand, with its level
abbrev pub Operand : Type 0
Operand = Tree × ℕ

-- `length` without brackets; no other built-in function may be used so
abbrev pub bare : Builtin → Parser Operand
bare b.Length = pure (builtin b.Length (more record_tree none), 13)
bare _ = refuse

abbrev pub appended : Option Builtin → List Tree → Tree → List Tree
appended f front a = front ++ argument f (length front) a ∷ []

-- The parameter reads a phrase of a level, where `>` is a comparison or not.
module _ (expr : Bool → ℕ → Parser Tree) where
  -- one or more, with commas between; the number bounds the turns
  unfoldable pub list_from : Bool → Option Builtin → ℕ → List Tree → Parser (List Tree)
  list_from compares f zero front = refuse
  list_from compares f (suc n) front = do
    a ← expr compares 0
    goes_on ← eat m.Comma
    if goes_on then lines >> list_from compares f n (appended f front a) else pure (appended f front a)

  -- a list, and the closing bracket
  unfoldable pub list_up_to : Mark → Option Builtin → Parser (List Tree)
  list_up_to close f = do
    as' ← (λ i. list_from true f (length i) [] i)
    expect close
    pure as'

  -- a list, or nothing, in round brackets
  unfoldable pub arguments : Option Builtin → Parser (List Tree)
  arguments f = do
    expect m.LeftParenthesis
    is_empty ← eat m.RightParenthesis
    if is_empty then pure [] else list_up_to m.RightParenthesis f

  unfoldable pub called : Text → Parser Operand
  called f = do
    as' ← arguments None
    a ← low (call f (trees as'))
    pure (a, 13)

  unfoldable pub built_in : Builtin → Parser Operand
  built_in f = do
    has_arguments ← (λ i. Some (sees m.LeftParenthesis i, i))
    if has_arguments then (do
      as' ← arguments (Some f)
      a ← low (builtin f (complete f (trees as')))
      pure (a, 13)) else bare f

  unfoldable pub named : Text → Parser Operand
  named x = do
    has_keys ← eat m.LeftBracket
    if has_keys then (do
      as' ← list_up_to m.RightBracket None
      a ← low (element x (trees as'))
      pure (a, 14)) else pure (variable x, 14)

  -- after a list in round brackets: one expression is grouped, several are the keys of `in`
  abbrev pub group_of : List Tree → Parser Operand
  group_of [] = refuse
  group_of (a ∷ []) = pure (a, 13)
  group_of (a ∷ d ∷ as') = do
    expect m.In
    x ← expect_name
    e ← low (member (trees (a ∷ d ∷ as')) x)
    pure (e, 3)

  unfoldable pub group : Parser Operand
  group = do
    as' ← list_up_to m.RightParenthesis None
    group_of as'

  unfoldable pub signed : Bool → Single → Parser Operand
  signed compares op = do
    a ← expr compares 9
    e ← low (unary op (value a))
    pure (e, 9)

  unfoldable pub step_before : Bool → Single → Parser Operand
  step_before compares op = do
    a ← expr compares 14
    e ← low (unary op a)
    pure (e, 11)

  -- after `$` and a step
  unfoldable pub field_step : Bool → Single → Parser Operand
  field_step compares op = do
    a ← expr compares 14
    d ← low (unary op a)
    e ← low (unary single.Field d)
    pure (e, 14)

  unfoldable pub field : Bool → Parser Operand
  field compares = do
    increments ← eat m.PlusPlus
    if increments then field_step compares single.IncrementBefore else (do
      decrements ← eat m.MinusMinus
      if decrements then field_step compares single.DecrementBefore else (do
        a ← expr compares 12
        e ← low (unary single.Field (value a))
        pure (e, 14)))

  abbrev pub operand_by_mark : Bool → Mark → Parser Operand
  operand_by_mark compares m.LeftParenthesis = group
  operand_by_mark compares m.Not = signed compares single.Not
  operand_by_mark compares m.Plus = signed compares single.Plus
  operand_by_mark compares m.Minus = signed compares single.Minus
  operand_by_mark compares m.PlusPlus = step_before compares single.IncrementBefore
  operand_by_mark compares m.MinusMinus = step_before compares single.DecrementBefore
  operand_by_mark compares m.Dollar = field compares
  operand_by_mark compares _ = refuse

  unfoldable pub operand : Bool → Parser Operand
  operand compares [] = None
  operand compares (t.number n ∷ ts) = Some ((number n, 13), ts)
  operand compares (t.string x ∷ ts) = Some ((string x, 13), ts)
  operand compares (t.ere x ∷ ts) = Some ((ere x, 13), ts)
  operand compares (t.name x ∷ ts) = named x ts
  operand compares (t.function_name f ∷ ts) = called f ts
  operand compares (t.builtin f ∷ ts) = built_in f ts
  operand compares (t.mark s ∷ ts) = operand_by_mark compares s ts

  -- left, taken further by what an operator does
  abbrev pub turn_by : Bool → Tree → ℕ → Turn → Parser Tree
  turn_by compares left right (Infix op) = λ i. and_then (expr compares right (after_op op (drop 1 i)))
      (λ a. low (binary op (value left) (right_side op a)))
  turn_by compares left right Beside = expr compares right >>= λ a. low (binary double.Concatenate (value left) (value a))
  turn_by compares left right Membership = λ i. and_then (expect_name (drop 1 i)) (λ x. low (member (more (value left) none) x))
  turn_by compares left right Choosing = λ i. and_then (expr compares 0 (drop 1 i)) (λ a. expect m.Colon >>
      (expr compares 0 >>= λ d. low (choice (value left) (value a) (value d))))
  turn_by compares left right (Postfix op) = λ i. low (unary op left) (drop 1 i)

  unfoldable pub turn : Bool → Row → Tree → Parser Tree
  turn compares row left = turn_by compares left row.right row.turn

  abbrev pub climb_by : ℕ → Tree → (Row → Parser Tree) → Option Row → ℕ → Parser Tree
  climb_by least left go None top = pure left
  climb_by least left go (Some row) top = if nat_le least row.level && nat_le row.left top then go row else pure left

  -- Operators of the level least or tighter, after an operand of the level top. The number bounds the turns.
  unfoldable pub climb : Bool → ℕ → ℕ → ℕ → Tree → Parser Tree
  climb compares zero least top left = refuse
  climb compares (suc n) least top left = λ i.
      climb_by least left (λ row. turn compares row left >>= climb compares n least row.level) (row_at compares top i) top i

  -- a phrase of the level least
  unfoldable pub phrase : Bool → ℕ → Parser Tree
  phrase compares least = do
    first ← operand compares
    if nat_le least first.1 then (λ i. climb compares (length i + 1) least first.1 first.0 i) else refuse

-- with phrases nested no deeper than the first number
unfoldable pub expr : ℕ → Bool → ℕ → Parser Tree
expr zero compares least = λ i. None
expr (suc depth) compares least = phrase (expr depth) compares least

-- how deep phrases may nest: as deep as 500 brackets and a tree of the greatest height can need
abbrev pub greatest_depth : ℕ
greatest_depth = 1000
