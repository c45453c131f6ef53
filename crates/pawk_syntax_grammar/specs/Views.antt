-- What the code holds of statements.
use Rattle.std.specs.Prelude.{ℕ, List, map}
use Rattle.pawk_syntax_tree.specs.declared.statement.StatementTree.{StatementTree}
use Rattle.pawk_syntax_tree.specs.Statement.{Stmt, stmts, stmt_view, height_of, highest_of}

abbrev pub stmt_views : List StatementTree → List Stmt
stmt_views = map stmt_view

abbrev pub highest_in : List StatementTree → ℕ
highest_in xs = highest_of (stmts (stmt_views xs))

abbrev pub height_in : StatementTree → ℕ
height_in x = height_of (stmt_view x)
