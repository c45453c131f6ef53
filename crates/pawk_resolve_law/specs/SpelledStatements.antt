-- The statement that code is another writing of.
use Rattle.std.specs.Prelude.{[]}
use Rattle.std.specs.Option.{option_map}
use Rattle.pawk_syntax_tree.specs.declared.tree.Double.TheVariants as double
use Rattle.pawk_syntax_tree.specs.Tree.{Tree, Trees, unary, binary}
use Rattle.pawk_syntax_tree.specs.Tree as tree
use Rattle.pawk_syntax_tree.specs.declared.statement.Jump.TheVariants as word
use Rattle.pawk_syntax_tree.specs.Statement.{Stmt as TreeStmt, Stmts as TreeStmts}
use Rattle.pawk_syntax_tree.specs.Statement as stmt
use Rattle.pawk_code.specs.Statements.{Simple, drop, set, add, count, print, printf, delete, clear, Leave, break, continue, next_record, next_file, exit, return, Head, Stmt, simple, leave, when, choose, repeat, do_while, loop, walk, Stmts, done, next}
use Rattle.pawk_resolve.specs.Scopes.{Scope}
use Rattle.pawk_resolve_law.specs.Names.{array_name, variable_name}
use Rattle.pawk_resolve_law.specs.Words.{step_word, add_word}
use Rattle.pawk_resolve_law.specs.Spelled.{spelled, spelled_all, spelled_place, spelled_format}

module _ (s : Scope) where
  -- the expression whose value is dropped; the others are none
  abbrev pub spelled_effect : Simple → Tree
  spelled_effect (drop e) = spelled s e
  spelled_effect (set p e) = binary double.Assign (spelled_place s p) (spelled s e)
  spelled_effect (add o p e) = binary (add_word o) (spelled_place s p) (spelled s e)
  spelled_effect (count o p) = unary (step_word o) (spelled_place s p)
  spelled_effect _ = tree.string []

  abbrev pub spelled_simple : Simple → TreeStmt
  spelled_simple (print calm es) = stmt.print (spelled_all s es)
  spelled_simple (printf f calm es) = stmt.printf (tree.more (spelled_format s f) (spelled_all s es))
  spelled_simple (delete a es) = stmt.delete (array_name s a) (spelled_all s es)
  spelled_simple (clear a) = stmt.clear (array_name s a)
  spelled_simple x = stmt.eval (spelled_effect x)

  abbrev pub spelled_leave : Leave → TreeStmt
  spelled_leave break = stmt.go_out word.Break
  spelled_leave continue = stmt.go_out word.Continue
  spelled_leave next_record = stmt.go_out word.Next
  spelled_leave next_file = stmt.go_out word.NextFile
  spelled_leave (exit e) = stmt.exit_with (option_map (spelled s) e)
  spelled_leave (return e) = stmt.return_with (option_map (spelled s) e)

  abbrev pub spelled_loop : Head → TreeStmts → TreeStmt
  spelled_loop h body =
      stmt.loop (option_map spelled_effect h.first) (option_map (spelled s) h.condition) (option_map spelled_effect h.last) body

  abbrev mutual
    pub spelled_statement : Stmt → TreeStmt
    spelled_statement (simple x) = spelled_simple x
    spelled_statement (leave l) = spelled_leave l
    spelled_statement (when e a) = stmt.when (spelled s e) (spelled_body a)
    spelled_statement (choose e a d) = stmt.choose (spelled s e) (spelled_body a) (spelled_body d)
    spelled_statement (repeat e a) = stmt.repeat (spelled s e) (spelled_body a)
    spelled_statement (do_while a e) = stmt.do_while (spelled_body a) (spelled s e)
    spelled_statement (loop h a) = spelled_loop h (spelled_body a)
    spelled_statement (walk k x a) = stmt.walk (variable_name s k) (array_name s x) (spelled_body a)

    pub spelled_body : Stmts → TreeStmts
    spelled_body done = stmt.done
    spelled_body (next x xs) = stmt.next (spelled_statement x) (spelled_body xs)
