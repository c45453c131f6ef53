-- The expressions of code without where they lie in memory.
use Rattle.std.specs.Prelude.{ℕ, ℤ, Bool, List, [], ◌∷◌}
use Rattle.pawk_value.specs.declared.arithmetic.Op.{Op}
use Rattle.pawk_code.specs.declared.name.Array.{Array}
use Rattle.pawk_code.specs.declared.leaf.Special.{Special}
use Rattle.pawk_code.specs.declared.word.Sign.{Sign}
use Rattle.pawk_code.specs.declared.word.Step.{Step}
use Rattle.pawk_code.specs.declared.word.Relation.{Relation}
use Rattle.pawk_code.specs.declared.word.ReplacedMatches.{ReplacedMatches}
use Rattle.pawk_code.specs.declared.word.Case.{Case}

-- the bytes of a text
abbrev pub Text : Type 0
Text = List ℕ

pub data Leaf : Type 0 where
  number : ℤ → Leaf
  text : Text → Leaf
  global : ℕ → Leaf
  local : ℕ → Leaf
  special : Special → Leaf
  field : ℕ → Leaf

mutual
  pub data Expr : Type 0 where
    leaf : Leaf → Expr
    numeric : Numeric → Expr
    test : Test → Expr
    textual : Textual → Expr
    read : Place → Expr
    choice : Expr → Expr → Expr → Expr
    assign : Place → Expr → Expr
    call : ℕ → Arguments → Expr

  pub data Exprs : Type 0 where
    none : Exprs
    more : Expr → Exprs → Exprs

  pub data Place : Type 0 where
    to_global : ℕ → Place
    to_local : ℕ → Place
    to_element : Array → Exprs → Place
    to_field : Expr → Place

  pub data Numeric : Type 0 where
    arithmetic : Op → Expr → Expr → Numeric
    signed : Sign → Expr → Numeric
    change : Op → Place → Expr → Numeric
    step : Step → Place → Numeric
    function : NumericFunction → Numeric
    split : Expr → Array → FieldsBy → Numeric
    replace : ReplacedMatches → Pattern → Expr → Place → Numeric
    find : Expr → Pattern → Numeric

  pub data NumericFunction : Type 0 where
    length_of : Expr → NumericFunction
    index_of : Expr → Expr → NumericFunction
    whole : Expr → NumericFunction

  pub data Test : Type 0 where
    compare : Relation → Expr → Expr → Test
    both : Expr → Expr → Test
    either : Expr → Expr → Test
    negation : Expr → Test
    matches : Bool → Expr → Pattern → Test
    member : Array → Exprs → Test

  pub data Textual : Type 0 where
    join : Exprs → Textual
    suffix : Expr → Expr → Textual
    substring : Expr → Expr → Expr → Textual
    letters : Case → Expr → Textual
    formatted : Format → Exprs → Textual

  pub data Pattern : Type 0 where
    fixed_pattern : ℕ → Pattern
    spelled_by : Expr → Pattern

  pub data FieldsBy : Type 0 where
    by_fs : FieldsBy
    by_fixed : ℕ → FieldsBy
    by_value : Expr → FieldsBy

  pub data Format : Type 0 where
    fixed_format : Text → Format
    format_of : Expr → Format

  pub data Argument : Type 0 where
    pass : Expr → Argument
    pass_array : Array → Argument

  pub data Arguments : Type 0 where
    no_arguments : Arguments
    more_arguments : Argument → Arguments → Arguments

abbrev pub exprs : List Expr → Exprs
exprs [] = none
exprs (e ∷ es) = more e (exprs es)

abbrev pub arguments : List Argument → Arguments
arguments [] = no_arguments
arguments (a ∷ as') = more_arguments a (arguments as')
