-- The reading of statements, as a function on lists of tokens.
use Rattle.std.specs.Prelude.{ℕ, zero, suc, ◌+◌, Bool, true, false, ◌||◌, if◌then◌else◌, nat_le, List, [], ◌∷◌, ◌++◌, length, drop, Option, Some, None}
use Rattle.pawk_lex.specs.declared.token.Mark.{Mark}
use Rattle.pawk_lex.specs.declared.token.Mark.TheVariants as m
use Rattle.pawk_lex.specs.Bytes.{Text}
use Rattle.pawk_lex.specs.Tokens.{Tok}
use Rattle.pawk_lex.specs.Tokens as t
use Rattle.pawk_syntax_tree.specs.Tree.{Tree, member, trees, record_tree, value}
use Rattle.pawk_syntax_tree.specs.Parse.{Outcome, Parser, and_then, ◌>>=◌, ◌>>◌, pure, refuse, low, eat, sees, expect, expect_name, lines, skip_lines, list_from, list_up_to, climb, appended, expr, greatest_depth, greatest_height}
use Rattle.pawk_syntax_tree.specs.declared.statement.Jump.TheVariants as leave
use Rattle.pawk_syntax_tree.specs.Statement.{Stmt, eval, print, printf, when, choose, repeat, do_while, loop, walk, go_out, exit_with, return_with, delete, clear, stmts, height_of}

abbrev pub nested : Bool → ℕ → Parser Tree
nested = expr greatest_depth

-- an expression
unfoldable pub whole : Parser Tree
whole = do
  a ← nested true 0
  pure (value a)

-- a statement that is not too high
unfoldable pub low_stmt : Stmt → Parser (List Stmt)
low_stmt x = λ i. if nat_le (height_of x) greatest_height then Some (x ∷ [], i) else None

-- a simple statement ends here
unfoldable pub ends : List Tok → Bool
ends i = sees m.Semicolon i || sees m.Newline i || sees m.RightBrace i

-- `;` or a newline, and further newlines; or nothing before `}`
unfoldable pub end : Parser (Unit {0})
end = λ i. if sees m.Semicolon i || sees m.Newline i then Some (tt, skip_lines (drop 1 i)) else (if sees m.RightBrace i then Some (tt, i) else None)

-- an expression, unless this holds of the tokens
unfoldable pub maybe : Bool → Parser (Option Tree)
maybe none_here = if none_here then pure None else (do e ← whole; pure (Some e))

-- ---- print

-- what comes after the first of a list
unfoldable pub list_on : Tree → Parser (List Tree)
list_on first = do
  goes_on ← eat m.Comma
  if goes_on then lines >> (λ i. list_from nested false None (length i) (appended None [] first) i) else pure (appended None [] first)

-- an expression that begins with this operand, and what comes after it in a list
unfoldable pub list_after : Tree → ℕ → Parser (List Tree)
list_after first top = do
  a ← (λ i. climb nested false (length i + 1) 0 top first i)
  list_on a

-- After a list in brackets: one expression is the first operand of a list, several are the keys of `in` or the whole list.
abbrev pub bracketed_by : List Tree → Parser (List Tree)
bracketed_by [] = refuse
bracketed_by (a ∷ []) = list_after a 13
bracketed_by (a ∷ d ∷ as') = do
  tests ← eat m.In
  if tests then (do
    x ← expect_name
    e ← low (member (trees (a ∷ d ∷ as')) x)
    list_after e 3) else pure (a ∷ d ∷ as')

unfoldable pub bracketed : Parser (List Tree)
bracketed = do
  as' ← list_up_to nested m.RightParenthesis None
  bracketed_by as'

unfoldable pub printed : Parser (List Tree)
printed = do
  opens ← eat m.LeftParenthesis
  if opens then bracketed else (λ i. list_from nested false None (length i) [] i)

-- ---- simple statements

unfoldable pub deleted : Parser Stmt
deleted = do
  a ← expect_name
  has_keys ← eat m.LeftBracket
  if has_keys then (do as' ← list_up_to nested m.RightBracket None; pure (delete a (trees as'))) else pure (clear a)

unfoldable pub print_on : Parser Stmt
print_on = do
  is_bare ← (λ i. Some (ends i, i))
  if is_bare then pure (print (trees (record_tree ∷ []))) else (do as' ← printed; pure (print (trees as')))

-- an expression as a statement
abbrev pub evaluated : Parser Stmt
evaluated = do
  e ← whole
  pure (eval e)

abbrev pub simple_by : Mark → Parser Stmt
simple_by m.Print = λ i. print_on (drop 1 i)
simple_by m.Printf = λ i. and_then (printed (drop 1 i)) (λ as'. pure (printf (trees as')))
simple_by m.Next = λ i. Some (go_out leave.Next, drop 1 i)
simple_by m.NextFile = λ i. Some (go_out leave.NextFile, drop 1 i)
simple_by m.Break = λ i. Some (go_out leave.Break, drop 1 i)
simple_by m.Continue = λ i. Some (go_out leave.Continue, drop 1 i)
simple_by m.Exit = λ i. and_then (maybe (ends (drop 1 i)) (drop 1 i)) (λ e. pure (exit_with e))
simple_by m.Return = λ i. and_then (maybe (ends (drop 1 i)) (drop 1 i)) (λ e. pure (return_with e))
simple_by m.Delete = λ i. deleted (drop 1 i)
simple_by _ = evaluated

unfoldable pub simple : Parser Stmt
simple [] = None
simple (t.mark s ∷ ts) = simple_by s (t.mark s ∷ ts)
simple (x ∷ ts) = evaluated (x ∷ ts)

unfoldable pub head : Parser Tree
head = do
  expect m.LeftParenthesis
  e ← whole
  expect m.RightParenthesis
  lines
  pure e

-- `k in a )`, after `for (`
unfoldable pub walks : Parser (Text × Text)
walks = do
  k ← expect_name
  expect m.In
  a ← expect_name
  expect m.RightParenthesis
  pure (k, a)

-- The parameter reads a statement, which may be several or none.
module _ (stmt : Parser (List Stmt)) where
  unfoldable pub block_from : ℕ → List Stmt → Parser (List Stmt)
  block_from zero front = refuse
  block_from (suc n) front = do
    ends' ← eat m.RightBrace
    if ends' then pure front else (do
      more ← stmt
      block_from n (front ++ more))

  -- after `{`
  unfoldable pub block : Parser (List Stmt)
  block = do
    lines
    λ i. block_from (length i) [] i

  -- after `if`
  unfoldable pub branch : Parser (List Stmt)
  branch = do
    e ← head
    a ← stmt
    has_else ← eat m.Else
    if has_else then (do lines; b ← stmt; low_stmt (choose e (stmts a) (stmts b))) else low_stmt (when e (stmts a))

  -- after `while`
  unfoldable pub looping : Parser (List Stmt)
  looping = do
    e ← head
    a ← stmt
    low_stmt (repeat e (stmts a))

  -- after `do`
  unfoldable pub doing : Parser (List Stmt)
  doing = do
    lines
    a ← stmt
    expect m.While
    expect m.LeftParenthesis
    e ← whole
    expect m.RightParenthesis
    end
    low_stmt (do_while (stmts a) e)

  unfoldable pub walking : Text × Text → Parser (List Stmt)
  walking names = do
    lines
    body ← stmt
    low_stmt (walk names.0 names.1 (stmts body))

  unfoldable pub counting : Parser (List Stmt)
  counting = do
    a ← (λ i. maybe (sees m.Semicolon i) i)
    expect m.Semicolon
    b ← (λ i. maybe (sees m.Semicolon i) i)
    expect m.Semicolon
    c ← (λ i. maybe (sees m.RightParenthesis i) i)
    expect m.RightParenthesis
    lines
    body ← stmt
    low_stmt (loop a b c (stmts body))

  abbrev pub for_by : Outcome (Text × Text) → Parser (List Stmt)
  for_by (Some p) i = walking p.0 p.1
  for_by None i = counting i

  -- after `for`
  unfoldable pub for_on : Parser (List Stmt)
  for_on = do
    expect m.LeftParenthesis
    λ i. for_by (walks i) i

  unfoldable pub other : Parser (List Stmt)
  other = do
    x ← simple
    end
    low_stmt x

  abbrev pub by_mark : Mark → Parser (List Stmt)
  by_mark m.Semicolon = λ i. Some ([], skip_lines (drop 1 i))
  by_mark m.LeftBrace = λ i. and_then (block (drop 1 i)) (λ xs. lines >> pure xs)
  by_mark m.If = λ i. branch (drop 1 i)
  by_mark m.While = λ i. looping (drop 1 i)
  by_mark m.Do = λ i. doing (drop 1 i)
  by_mark m.For = λ i. for_on (drop 1 i)
  by_mark _ = other

  unfoldable pub one : Parser (List Stmt)
  one [] = None
  one (t.mark s ∷ ts) = by_mark s (t.mark s ∷ ts)
  one (x ∷ ts) = other (x ∷ ts)

-- with statements nested no deeper than the number
unfoldable pub stmt : ℕ → Parser (List Stmt)
stmt zero = λ i. None
stmt (suc depth) = one (stmt depth)
