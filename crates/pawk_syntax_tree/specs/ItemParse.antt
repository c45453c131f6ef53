-- The reading of items and programs, as a function on lists of tokens.
use Rattle.std.specs.Prelude.{ℕ, zero, suc, Bool, true, false, ◌||◌, if◌then◌else◌, nat_le, List, [], ◌∷◌, ◌++◌, length, drop, Some, None}
use Rattle.pawk_lex.specs.declared.token.Mark.{Mark}
use Rattle.pawk_lex.specs.declared.token.Mark.TheVariants as m
use Rattle.pawk_lex.specs.Bytes.{Text}
use Rattle.pawk_lex.specs.Tokens.{Tok}
use Rattle.pawk_lex.specs.Tokens as t
use Rattle.pawk_syntax_tree.specs.Tree.{Tree}
use Rattle.pawk_syntax_tree.specs.Parse.{Parser, and_then, ◌>>=◌, ◌>>◌, pure, refuse, eat, sees, expect, expect_name, lines, greatest_height, greatest_depth}
use Rattle.pawk_syntax_tree.specs.Statement.{Stmts, stmts}
use Rattle.pawk_syntax_tree.specs.StatementParse.{whole, block, stmt}
use Rattle.pawk_syntax_tree.specs.Item.{Part, begin, end, always, matching, between, define, print_record, height_of_part}

-- the statements of an action
unfoldable pub action : Parser Stmts
action = do
  expect m.LeftBrace
  xs ← block (stmt greatest_depth)
  pure (stmts xs)

-- an item that is not too high, and whether it ends with an action
unfoldable pub low_part : Bool → Part → Parser (Part × Bool)
low_part closes x = λ i. if nat_le (height_of_part x) greatest_height then Some ((x, closes), i) else None

unfoldable pub with_action : (Stmts → Part) → Parser (Part × Bool)
with_action make = do
  a ← action
  low_part true (make a)

-- after a pattern: an action, or none
unfoldable pub action_or_none : (Stmts → Part) → Parser (Part × Bool)
action_or_none make = do
  has_action ← (λ i. Some (sees m.LeftBrace i, i))
  if has_action then with_action make else low_part false (make print_record)

-- the second pattern of a range, after the comma
abbrev pub range_from : Tree → Parser (Part × Bool)
range_from p = do
  lines
  q ← whole
  action_or_none (between p q)

unfoldable pub pattern : Parser (Part × Bool)
pattern = do
  p ← whole
  is_range ← eat m.Comma
  if is_range then range_from p else action_or_none (matching p)

-- parameters after the first bracket; the number bounds the turns
unfoldable pub parameters_from : ℕ → List Text → Parser (List Text)
parameters_from zero front = refuse
parameters_from (suc n) front = do
  x ← expect_name
  goes_on ← eat m.Comma
  if goes_on then lines >> parameters_from n (front ++ x ∷ []) else (do
    expect m.RightParenthesis
    pure (front ++ x ∷ []))

unfoldable pub parameters : Parser (List Text)
parameters = do
  is_empty ← eat m.RightParenthesis
  if is_empty then pure [] else (λ i. parameters_from (length i) [] i)

unfoldable pub function_name : Parser Text
function_name (t.name x ∷ ts) = Some (x, ts)
function_name (t.function_name x ∷ ts) = Some (x, ts)
function_name _ = None

-- after `function`
unfoldable pub function_on : Parser (Part × Bool)
function_on = do
  f ← function_name
  expect m.LeftParenthesis
  ps ← parameters
  lines
  with_action (define f ps)

abbrev pub item_by : Mark → Parser (Part × Bool)
item_by m.Begin = λ i. with_action begin (drop 1 i)
item_by m.End = λ i. with_action end (drop 1 i)
item_by m.LeftBrace = with_action always
item_by m.Function = λ i. function_on (drop 1 i)
item_by _ = pattern

unfoldable pub item : Parser (Part × Bool)
item [] = None
item (t.mark s ∷ ts) = item_by s (t.mark s ∷ ts)
item (x ∷ ts) = pattern (x ∷ ts)

unfoldable pub separates : List Tok → Bool
separates i = sees m.Semicolon i || sees m.Newline i

unfoldable pub skip_separators : List Tok → List Tok
skip_separators [] = []
skip_separators (x ∷ ts) = if separates (x ∷ ts) then skip_separators ts else x ∷ ts

abbrev pub at_end : List Tok → Bool
at_end [] = true
at_end (x ∷ ts) = false

-- what follows an item
unfoldable pub separated : Bool → Parser (Unit {0})
separated closes = λ i. if closes || (at_end i || separates i) then Some (tt, skip_separators i) else None

unfoldable pub items_from : ℕ → List Part → Parser (List Part)
items_from zero front = refuse
items_from (suc n) front = λ i. if at_end i then Some (front, i) else and_then (item i) (λ p. separated p.1 >> items_from n (front ++ p.0 ∷ []))

unfoldable pub program : Parser (List Part)
program = do
  lines
  λ i. items_from (suc (length i)) [] i
