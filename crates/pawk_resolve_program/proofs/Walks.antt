-- The code of lists, one after the other.
use Rattle.std.proofs.Common.{◌≡◌, List, [], ◌∷◌, map, refl, ap}
use Rattle.pawk_syntax_tree.specs.declared.tree.ExpressionTree.{ExpressionTree as CodeTree}
use Rattle.pawk_syntax_tree.specs.Tree.{trees, view as tree_view, views as tree_views}
use Rattle.pawk_syntax_tree.specs.declared.statement.StatementTree.{StatementTree as CodeStatement}
use Rattle.pawk_syntax_tree.specs.Statement.{stmt_view as tree_stmt_view}
use Rattle.pawk_syntax_tree.specs.Item.{seen as tree_seen}
use Rattle.pawk_code.specs.Expressions.{Expr, Argument, exprs, more, arguments, more_arguments}
use Rattle.pawk_code.specs.Statements.{Stmt, stmts, next}
use Rattle.pawk_resolve.specs.Scopes.{Scope}
use Rattle.pawk_resolve.specs.Sorted.{argument_of}
use Rattle.pawk_resolve.specs.Resolved.{resolved, resolved_all, resolved_arguments}
use Rattle.pawk_resolve.specs.ResolvedStatements.{resolved_statement, resolved_body}

abbrev pub code_of : Scope → CodeTree → Expr
code_of s t = resolved s (tree_view t)

abbrev pub passed : Scope → CodeTree → Argument
passed s t = argument_of s (tree_view t) (resolved s (tree_view t))

abbrev pub step_of : Scope → CodeStatement → Stmt
step_of s x = resolved_statement s (tree_stmt_view x)

pub all_codes : (s : Scope) (ts : List CodeTree) → exprs (map (code_of s) ts) ≡ resolved_all s (trees (tree_views ts))
all_codes s [] = refl
all_codes s (t ∷ ts) = ap (more (code_of s t)) (all_codes s ts)

pub all_passed : (s : Scope) (ts : List CodeTree) → arguments (map (passed s) ts) ≡ resolved_arguments s (trees (tree_views ts))
all_passed s [] = refl
all_passed s (t ∷ ts) = ap (more_arguments (passed s t)) (all_passed s ts)

pub all_steps : (s : Scope) (xs : List CodeStatement) → stmts (map (step_of s) xs) ≡ resolved_body s (tree_seen xs)
all_steps s [] = refl
all_steps s (x ∷ xs) = ap (next (step_of s x)) (all_steps s xs)
