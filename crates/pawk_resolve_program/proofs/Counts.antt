-- Built-in functions by the number of their arguments.
use Rattle.std.proofs.Common.{◌≡◌, List, [], ◌∷◌, length, refl}
use Rattle.pawk_lex.specs.declared.token.Builtin.{Builtin}
use Rattle.pawk_syntax_tree.specs.declared.tree.ExpressionTree.{ExpressionTree as CodeTree}
use Rattle.pawk_syntax_tree.specs.Tree.{trees, views as tree_views}
use Rattle.pawk_code.specs.Expressions.{Exprs}
use Rattle.pawk_resolve.specs.Scopes.{Scope}
use Rattle.pawk_resolve.specs.Sorted.{nothing, builtin_of_some}

pub none_or_many : (s : Scope) (f : Builtin) (ts : List CodeTree) (es : Exprs) →
    (length ts ≡ 1 → ⊥) → (length ts ≡ 2 → ⊥) → (length ts ≡ 3 → ⊥) →
    nothing ≡ builtin_of_some s f (trees (tree_views ts)) es
none_or_many s f [] es one two three = refl
none_or_many s f (t ∷ []) es one two three = absurd (one refl)
none_or_many s f (t ∷ u ∷ []) es one two three = absurd (two refl)
none_or_many s f (t ∷ u ∷ v ∷ []) es one two three = absurd (three refl)
none_or_many s f (t ∷ u ∷ v ∷ w ∷ ts) es one two three = refl
