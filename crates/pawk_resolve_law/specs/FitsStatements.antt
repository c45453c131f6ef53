-- Statements of code in normal form: an assignment, an addition or a step whose value is dropped is a statement of its own, and
-- what is printed is said to be calm exactly where it is.
use Rattle.std.specs.Prelude.{◌≡◌, IfSome}
use Rattle.pawk_value.specs.declared.arithmetic.Op.TheVariants as op
use Rattle.pawk_code.specs.declared.name.Variable.{Variable}
use Rattle.pawk_code.specs.declared.name.Variable.TheVariants as variable
use Rattle.pawk_code.specs.Expressions.{Expr, numeric, assign, change, step}
use Rattle.pawk_code.specs.Calm.{are_calm}
use Rattle.pawk_code.specs.Statements.{Simple, drop, set, add, count, print, printf, delete, clear, Leave, exit, return, Head, Stmt, simple, leave, when, choose, repeat, do_while, loop, walk, Stmts, done, next}
use Rattle.pawk_resolve.specs.Scopes.{Scope}
use Rattle.pawk_resolve_law.specs.Fits.{FitsGlobal, FitsLocal, FitsArray, Fits, FitsAll, FitsPlace, FitsFormat}

-- no other statement drops the value of this expression
abbrev pub MayBeDropped : Expr → Type 0
MayBeDropped (assign p e) = ⊥
MayBeDropped (numeric (change op.Add p e)) = ⊥
MayBeDropped (numeric (change op.Subtract p e)) = ⊥
MayBeDropped (numeric (step o p)) = ⊥
MayBeDropped _ = Unit {0}

module _ (s : Scope) where
  abbrev pub FitsVariable : Variable → Type 0
  FitsVariable (variable.Global n) = FitsGlobal s n
  FitsVariable (variable.Local n) = FitsLocal s n

  -- a statement that is an expression
  abbrev pub FitsEffect : Simple → Type 0
  FitsEffect (drop e) = MayBeDropped e × Fits s e
  FitsEffect (set p e) = FitsPlace s p × Fits s e
  FitsEffect (add o p e) = FitsPlace s p × Fits s e
  FitsEffect (count o p) = FitsPlace s p
  FitsEffect _ = ⊥

  abbrev pub FitsSimple : Simple → Type 0
  FitsSimple (print calm es) = (calm ≡ are_calm es) × FitsAll s es
  FitsSimple (printf f calm es) = FitsFormat s f × (calm ≡ are_calm es) × FitsAll s es
  FitsSimple (delete a es) = FitsArray s a × FitsAll s es
  FitsSimple (clear a) = FitsArray s a
  FitsSimple x = FitsEffect x

  abbrev pub FitsLeave : Leave → Type 0
  FitsLeave (exit e) = IfSome e (Fits s)
  FitsLeave (return e) = IfSome e (Fits s)
  FitsLeave _ = Unit {0}

  abbrev pub FitsHead : Head → Type 0
  FitsHead h = IfSome h.first FitsEffect × IfSome h.condition (Fits s) × IfSome h.last FitsEffect

  abbrev mutual
    pub FitsStatement : Stmt → Type 0
    FitsStatement (simple x) = FitsSimple x
    FitsStatement (leave l) = FitsLeave l
    FitsStatement (when e a) = Fits s e × FitsBody a
    FitsStatement (choose e a d) = Fits s e × FitsBody a × FitsBody d
    FitsStatement (repeat e a) = Fits s e × FitsBody a
    FitsStatement (do_while a e) = FitsBody a × Fits s e
    FitsStatement (loop h a) = FitsHead h × FitsBody a
    FitsStatement (walk k x a) = FitsVariable k × FitsArray s x × FitsBody a

    pub FitsBody : Stmts → Type 0
    FitsBody done = Unit {0}
    FitsBody (next x xs) = FitsStatement x × FitsBody xs
