-- The code of statements (POSIX.1-2017, awk, "Actions" and "Output Statements").
use Rattle.std.specs.Prelude.{Option}
use Rattle.std.specs.Option.{option_map}
use Rattle.pawk_value.specs.declared.arithmetic.Op.TheVariants as op
use Rattle.pawk_syntax_tree.specs.Tree.{Tree, Trees}
use Rattle.pawk_syntax_tree.specs.Tree as tree
use Rattle.pawk_syntax_tree.specs.declared.statement.Jump.{Jump as Word}
use Rattle.pawk_syntax_tree.specs.declared.statement.Jump.TheVariants as word
use Rattle.pawk_syntax_tree.specs.Statement.{Stmt as TreeStmt, Stmts as TreeStmts}
use Rattle.pawk_syntax_tree.specs.Statement as stmt
use Rattle.pawk_code.specs.declared.word.Sign.TheVariants as sign
use Rattle.pawk_code.specs.Expressions.{Expr, Exprs, Format, numeric, assign, change, step}
use Rattle.pawk_code.specs.Calm.{are_calm}
use Rattle.pawk_code.specs.Statements.{Simple, drop, set, add, count, print, printf, delete, clear, Leave, break, continue, next_record, next_file, exit, return, Head, Stmt, simple, leave, when, choose, repeat, do_while, loop, walk, Stmts, done, next}
use Rattle.pawk_resolve.specs.Scopes.{Scope, array_of, variable_of}
use Rattle.pawk_resolve.specs.Sorted.{nothing, format_by}
use Rattle.pawk_resolve.specs.Resolved.{resolved, resolved_all}

-- a statement that is an expression: its value is dropped
abbrev pub dropped : Expr → Simple
dropped (assign p e) = set p e
dropped (numeric (change op.Add p e)) = add sign.Plus p e
dropped (numeric (change op.Subtract p e)) = add sign.Minus p e
dropped (numeric (step s p)) = count s p
dropped e = drop e

-- what is printed, and whether it is calm
abbrev pub print_of : Exprs → Simple
print_of es = print (are_calm es) es

abbrev pub printf_by : Format → Exprs → Simple
printf_by f es = printf f (are_calm es) es

-- the format, and what it shows
abbrev pub printf_of : Scope → Trees → Simple
printf_of s tree.none = drop nothing
printf_of s (tree.more t ts) = printf_by (format_by (resolved s t)) (resolved_all s ts)

abbrev pub left_by : Word → Leave
left_by word.Next = next_record
left_by word.NextFile = next_file
left_by word.Break = break
left_by word.Continue = continue

module _ (s : Scope) where
  abbrev pub simple_of : Tree → Simple
  simple_of t = dropped (resolved s t)

  -- a statement that leaves what surrounds it
  abbrev pub resolved_leave : TreeStmt → Stmt
  resolved_leave (stmt.go_out w) = leave (left_by w)
  resolved_leave (stmt.exit_with e) = leave (exit (option_map (resolved s) e))
  resolved_leave (stmt.return_with e) = leave (return (option_map (resolved s) e))
  resolved_leave x = simple (drop nothing)

  -- a statement with no body
  abbrev pub resolved_plain : TreeStmt → Stmt
  resolved_plain (stmt.eval e) = simple (simple_of e)
  resolved_plain (stmt.print es) = simple (print_of (resolved_all s es))
  resolved_plain (stmt.printf es) = simple (printf_of s es)
  resolved_plain (stmt.delete x es) = simple (delete (array_of s x) (resolved_all s es))
  resolved_plain (stmt.clear x) = simple (clear (array_of s x))
  resolved_plain x = resolved_leave x

  abbrev pub head_of : Option Tree → Option Tree → Option Tree → Head
  head_of a d e = record { first = option_map simple_of a; condition = option_map (resolved s) d; last = option_map simple_of e }

  abbrev mutual
    pub resolved_statement : TreeStmt → Stmt
    resolved_statement (stmt.when e a) = when (resolved s e) (resolved_body a)
    resolved_statement (stmt.choose e a d) = choose (resolved s e) (resolved_body a) (resolved_body d)
    resolved_statement (stmt.repeat e a) = repeat (resolved s e) (resolved_body a)
    resolved_statement (stmt.do_while a e) = do_while (resolved_body a) (resolved s e)
    resolved_statement (stmt.loop a d e body) = loop (head_of a d e) (resolved_body body)
    resolved_statement (stmt.walk k x a) = walk (variable_of s k) (array_of s x) (resolved_body a)
    resolved_statement x = resolved_plain x

    pub resolved_body : TreeStmts → Stmts
    resolved_body stmt.done = done
    resolved_body (stmt.next x xs) = next (resolved_statement x) (resolved_body xs)
