-- Statements of the code as the statements that they are.
use Rattle.std.specs.Prelude.{List, map}
use Rattle.std.specs.Option.{option_map}
use Rattle.pawk_code.specs.declared.statement.Simple.{Simple as CodeSimple}
use Rattle.pawk_code.specs.declared.statement.Simple.TheVariants as code_simple
use Rattle.pawk_code.specs.declared.statement.Leave.{Leave as CodeLeave}
use Rattle.pawk_code.specs.declared.statement.Leave.TheVariants as code_leave
use Rattle.pawk_code.specs.declared.statement.Head.{Head as CodeHead}
use Rattle.pawk_code.specs.declared.statement.Statement.{Statement, fold-Statement}
use Rattle.pawk_code.specs.declared.statement.Statement.TheOpen.{Statement-F}
use Rattle.pawk_code.specs.Expressions.{exprs}
use Rattle.pawk_code.specs.ExpressionViews.{view, views, place_view, format_view}
use Rattle.pawk_code.specs.Statements.{Simple, drop, set, add, count, print, printf, delete, clear, Leave, break, continue, next_record, next_file, exit, return, Head, Stmt, simple, leave, when, choose, repeat, do_while, loop, walk, Stmts, stmts}

abbrev pub simple_view : CodeSimple → Simple
simple_view (code_simple.Drop e) = drop (view e)
simple_view (code_simple.Set to e) = set (place_view to) (view e)
simple_view (code_simple.Add sign to e) = add sign (place_view to) (view e)
simple_view (code_simple.Count s to) = count s (place_view to)
simple_view (code_simple.Print o) = print o.calm (exprs (views o.values.items))
simple_view (code_simple.Printf f o) = printf (format_view f) o.calm (exprs (views o.values.items))
simple_view (code_simple.Delete a v) = delete a (exprs (views v.items))
simple_view (code_simple.Clear a) = clear a

abbrev pub leave_view : CodeLeave → Leave
leave_view code_leave.Break = break
leave_view code_leave.Continue = continue
leave_view code_leave.Next = next_record
leave_view code_leave.NextFile = next_file
leave_view (code_leave.Exit e) = exit (option_map view e)
leave_view (code_leave.Return e) = return (option_map view e)

abbrev pub head_view : CodeHead → Head
head_view h = record { first = option_map simple_view h.first; condition = option_map view h.test; last = option_map simple_view h.last }

-- one level, with each statement inside already seen
abbrev pub stmt_step : Statement-F Stmt → Stmt
stmt_step (Statement-F.Simple x) = simple (simple_view x)
stmt_step (Statement-F.Leave l) = leave (leave_view l)
stmt_step (Statement-F.If e v) = when (view e) (stmts v.items)
stmt_step (Statement-F.Choose e v w) = choose (view e) (stmts v.items) (stmts w.items)
stmt_step (Statement-F.While e v) = repeat (view e) (stmts v.items)
stmt_step (Statement-F.Do v e) = do_while (stmts v.items) (view e)
stmt_step (Statement-F.For h v) = loop (head_view h) (stmts v.items)
stmt_step (Statement-F.ForIn k a v) = walk k a (stmts v.items)

abbrev pub stmt_view : Statement → Stmt
stmt_view = fold-Statement Stmt stmt_step

abbrev pub seen : List Statement → Stmts
seen xs = stmts (map stmt_view xs)
