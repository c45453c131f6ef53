-- The heights of trees that the code holds.
use Rattle.std.specs.Prelude.{ℕ, Bool, true, false, ◌==◌, List}
use Rattle.pawk_lex.specs.declared.token.Builtin.{Builtin}
use Rattle.pawk_lex.specs.declared.token.Builtin.TheVariants as b
use Rattle.pawk_syntax_tree.specs.declared.tree.ExpressionTree.{ExpressionTree}
use Rattle.pawk_syntax_tree.specs.Tree.{Tree, ere, view, views, trees}
use Rattle.pawk_syntax_tree.specs.Canonical.{height, highest}

abbrev pub height_of : ExpressionTree → ℕ
height_of e = height (view e)

abbrev pub highest_of : List ExpressionTree → ℕ
highest_of es = highest (trees (views es))

-- an expression between slashes
abbrev pub is_ere : Tree → Bool
is_ere (ere x) = true
is_ere _ = false

-- a call of a built-in function with this many arguments stands for one with `$0` after them
abbrev pub lacks_record : Builtin → ℕ → Bool
lacks_record b.Length n = n == 0
lacks_record b.Sub n = n == 2
lacks_record b.Gsub n = n == 2
lacks_record _ n = false
