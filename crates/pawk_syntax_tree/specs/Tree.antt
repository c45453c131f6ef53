-- Syntax trees without where they lie in memory, nor where their names are in the text.
use Rattle.std.specs.Prelude.{ℕ, Bool, true, false, ◌==◌, List, [], ◌∷◌, map, Option, Some}
use Rattle.pawk_lex.specs.Bytes.{Text}
use Rattle.pawk_lex.specs.declared.token.Builtin.{Builtin}
use Rattle.pawk_lex.specs.declared.token.Builtin.TheVariants as b
use Rattle.pawk_syntax_tree.specs.declared.tree.Single.{Single}
use Rattle.pawk_syntax_tree.specs.declared.tree.Single.TheVariants as single
use Rattle.pawk_syntax_tree.specs.declared.tree.Double.{Double}
use Rattle.pawk_syntax_tree.specs.declared.tree.Double.TheVariants as double
use Rattle.pawk_syntax_tree.specs.declared.tree.ExpressionTree.{ExpressionTree, fold-ExpressionTree}
use Rattle.pawk_syntax_tree.specs.declared.tree.ExpressionTree.TheOpen.{ExpressionTree-F}

mutual
  pub data Tree : Type 0 where
    number : ℕ → Tree
    string : Text → Tree
    ere : Text → Tree
    variable : Text → Tree
    element : Text → Trees → Tree
    unary : Single → Tree → Tree
    binary : Double → Tree → Tree → Tree
    choice : Tree → Tree → Tree → Tree
    member : Trees → Text → Tree
    call : Text → Trees → Tree
    builtin : Builtin → Trees → Tree

  pub data Trees : Type 0 where
    none : Trees
    more : Tree → Trees → Trees

abbrev pub trees : List Tree → Trees
trees [] = none
trees (a ∷ as') = more a (trees as')

-- one level, with each tree inside already seen as its tree
abbrev pub view_step : ExpressionTree-F Tree → Tree
view_step (ExpressionTree-F.Number n) = number n
view_step (ExpressionTree-F.String v) = string v.items
view_step (ExpressionTree-F.Ere v) = ere v.items
view_step (ExpressionTree-F.Variable x) = variable x.text.items
view_step (ExpressionTree-F.Element x v) = element x.text.items (trees v.items)
view_step (ExpressionTree-F.Unary op a) = unary op a.value
view_step (ExpressionTree-F.Binary op a b) = binary op a.value b.value
view_step (ExpressionTree-F.Choice c a b) = choice c.value a.value b.value
view_step (ExpressionTree-F.Member v x) = member (trees v.items) x.text.items
view_step (ExpressionTree-F.Call f v) = call f.text.items (trees v.items)
view_step (ExpressionTree-F.Builtin f place v) = builtin f (trees v.items)

abbrev pub view : ExpressionTree → Tree
view = fold-ExpressionTree Tree view_step

abbrev pub views : List ExpressionTree → List Tree
views = map view

-- `$0`
abbrev pub record_tree : Tree
record_tree = unary single.Field (number 0)

-- what an expression is where its value counts: `/e/` is whether the record matches it
abbrev pub value : Tree → Tree
value (ere e) = binary double.Match record_tree (ere e)
value a = a

-- the right side of `~` and `!~` may be an expression between slashes itself
abbrev pub takes_ere : Double → Bool
takes_ere double.Match = true
takes_ere double.NotMatch = true
takes_ere _ = false

-- so may the first argument of sub and gsub, the second of match and the third of split; places are counted from 0
abbrev pub takes_ere_at : Option Builtin → ℕ → Bool
takes_ere_at (Some b.Sub) place = place == 0
takes_ere_at (Some b.Gsub) place = place == 0
takes_ere_at (Some b.Match) place = place == 1
takes_ere_at (Some b.Split) place = place == 2
takes_ere_at _ place = false

abbrev pub value_unless : Bool → Tree → Tree
value_unless true a = a
value_unless false a = value a

abbrev pub right_side : Double → Tree → Tree
right_side op a = value_unless (takes_ere op) a

-- the argument in this place of a built-in function, or of none
abbrev pub argument : Option Builtin → ℕ → Tree → Tree
argument f place a = value_unless (takes_ere_at f place) a

-- the arguments that a call without all of them stands for: length of `$0`, and sub and gsub in `$0`
abbrev pub complete : Builtin → Trees → Trees
complete b.Length none = more record_tree none
complete b.Sub (more e (more r none)) = more e (more r (more record_tree none))
complete b.Gsub (more e (more r none)) = more e (more r (more record_tree none))
complete f as' = as'
