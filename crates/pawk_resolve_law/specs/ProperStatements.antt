-- Statements of a program that passed the checks.
use Rattle.std.specs.Prelude.{◌≡◌, None, IfSome}
use Rattle.pawk_syntax_tree.specs.Tree.{none, more}
use Rattle.pawk_syntax_tree.specs.Statement.{Stmt, eval, print, printf, when, choose, repeat, do_while, loop, walk, go_out, exit_with, return_with, delete, clear, Stmts, done, next}
use Rattle.pawk_resolve.specs.Scopes.{Scope, special_of}
use Rattle.pawk_resolve_law.specs.Proper.{IsScalar, IsArray, IsProper, AreProper}

module _ (s : Scope) where
  abbrev mutual
    pub IsProperStatement : Stmt → Type 0
    IsProperStatement (eval e) = IsProper s e
    IsProperStatement (print es) = AreProper s es
    IsProperStatement (printf none) = ⊥
    IsProperStatement (printf (more f es)) = IsProper s f × AreProper s es
    IsProperStatement (when e a) = IsProper s e × IsProperBody a
    IsProperStatement (choose e a d) = IsProper s e × IsProperBody a × IsProperBody d
    IsProperStatement (repeat e a) = IsProper s e × IsProperBody a
    IsProperStatement (do_while a e) = IsProperBody a × IsProper s e
    IsProperStatement (loop a d e body) = IfSome a (IsProper s) × IfSome d (IsProper s) × IfSome e (IsProper s) × IsProperBody body
    IsProperStatement (walk k x a) = (special_of k ≡ None) × IsScalar s k × IsArray s x × IsProperBody a
    IsProperStatement (go_out word) = Unit {0}
    IsProperStatement (exit_with e) = IfSome e (IsProper s)
    IsProperStatement (return_with e) = IfSome e (IsProper s)
    IsProperStatement (delete x es) = IsArray s x × AreProper s es
    IsProperStatement (clear x) = IsArray s x

    pub IsProperBody : Stmts → Type 0
    IsProperBody done = Unit {0}
    IsProperBody (next x xs) = IsProperStatement x × IsProperBody xs
