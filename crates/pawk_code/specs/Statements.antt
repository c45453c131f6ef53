-- The statements of code without where they lie in memory.
use Rattle.std.specs.Prelude.{Bool, List, [], ◌∷◌, Option}
use Rattle.pawk_code.specs.declared.name.Array.{Array}
use Rattle.pawk_code.specs.declared.name.Variable.{Variable}
use Rattle.pawk_code.specs.declared.word.Sign.{Sign}
use Rattle.pawk_code.specs.declared.word.Step.{Step}
use Rattle.pawk_code.specs.Expressions.{Expr, Exprs, Place, Format}

pub data Simple : Type 0 where
  drop : Expr → Simple
  set : Place → Expr → Simple
  add : Sign → Place → Expr → Simple
  count : Step → Place → Simple
  -- whether what is printed is calm, and what is printed
  print : Bool → Exprs → Simple
  printf : Format → Bool → Exprs → Simple
  delete : Array → Exprs → Simple
  clear : Array → Simple

pub data Leave : Type 0 where
  break : Leave
  continue : Leave
  next_record : Leave
  next_file : Leave
  exit : Option Expr → Leave
  return : Option Expr → Leave

pub record Head : Type 0 where
  pub first : Option Simple
  pub condition : Option Expr
  pub last : Option Simple

mutual
  pub data Stmt : Type 0 where
    simple : Simple → Stmt
    leave : Leave → Stmt
    when : Expr → Stmts → Stmt
    choose : Expr → Stmts → Stmts → Stmt
    repeat : Expr → Stmts → Stmt
    do_while : Stmts → Expr → Stmt
    loop : Head → Stmts → Stmt
    walk : Variable → Array → Stmts → Stmt

  pub data Stmts : Type 0 where
    done : Stmts
    next : Stmt → Stmts → Stmts

abbrev pub stmts : List Stmt → Stmts
stmts [] = done
stmts (x ∷ xs) = next x (stmts xs)
