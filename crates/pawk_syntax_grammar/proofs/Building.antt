-- What the making of statements needs.
use Rattle.std.proofs.Common.{◌≡◌, ℕ, max, true, false, List, [], ◌∷◌, ◌++◌, Some, None, refl, arith}
use Rattle.std.specs.Prelude.{nat_le}
use Rattle.pawk_lex.specs.Tokens.{Tok}
use Rattle.pawk_syntax_tree.specs.Statement.{Stmt, stmts, height_of, highest_of}
use Rattle.pawk_syntax_tree.specs.StatementParse.{low_stmt}

pub low_is : (x : Stmt) (n : ℕ) (ts : List Tok) → nat_le n 200 ≡ true → n ≡ height_of x → low_stmt x ts ≡ Some (x ∷ [], ts)
unfolding low_stmt
low_is x n ts e f = rw (← f, e) refl

pub low_none : (x : Stmt) (n : ℕ) (ts : List Tok) → nat_le n 200 ≡ false → n ≡ height_of x → low_stmt x ts ≡ None
unfolding low_stmt
low_none x n ts e f = rw (← f, e) refl

pub single_height : (x : Stmt) → highest_of (stmts (x ∷ [])) ≡ height_of x
single_height x = omega arith

pub highest_append : (as' bs : List Stmt) → highest_of (stmts (as' ++ bs)) ≡ max (highest_of (stmts as')) (highest_of (stmts bs))
highest_append [] bs = omega arith
highest_append (x ∷ as') bs = rw (highest_append as' bs) (omega arith)
