-- Code without where it lies in memory.
use Rattle.std.specs.Prelude.{ℕ, List}
use Rattle.pawk_code.specs.declared.program.ParameterKind.{ParameterKind}
use Rattle.pawk_code.specs.Expressions.{Text, Expr}
use Rattle.pawk_code.specs.Statements.{Stmts}

pub data Selector : Type 0 where
  always : Selector
  matching : Expr → Selector
  between : Expr → Expr → Selector

pub record Rule : Type 0 where
  pub selector : Selector
  pub body : Stmts

pub record Function : Type 0 where
  pub kinds : List ParameterKind
  pub body : Stmts

pub record Code : Type 0 where
  pub begins : List Stmts
  pub rules : List Rule
  pub ends : List Stmts
  pub functions : List Function
  pub scalars : List Text
  pub arrays : List Text
  pub expressions : List Text
