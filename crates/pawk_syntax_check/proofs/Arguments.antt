-- Lists of arguments.
use Rattle.std.proofs.Common.{◌≡◌, ◌<◌, suc, true, Bool, List, [], ◌∷◌, length, refl, ap, arith}
use Rattle.pawk_syntax_tree.specs.declared.tree.ExpressionTree.{ExpressionTree}
use Rattle.pawk_syntax_tree.specs.Tree.{Tree, trees, views}
use Rattle.pawk_syntax_check.specs.Mentions.{count}
use Rattle.pawk_syntax_check.specs.Calls.{second, third}

pub count_of_views : (es : List ExpressionTree) → count (trees (views es)) ≡ length es
count_of_views [] = refl
count_of_views (e ∷ es) = ap suc (count_of_views es)

pub short_of_three : (test : Tree → Bool) (es : List ExpressionTree) → length es < 3 → third test (trees (views es)) ≡ true
short_of_three test [] h = refl
short_of_three test (a ∷ []) h = refl
short_of_three test (a ∷ b ∷ []) h = refl
short_of_three test (a ∷ b ∷ d ∷ es) h = absurd (omega (arith, h))

pub short_of_two : (test : Tree → Bool) (es : List ExpressionTree) → length es < 2 → second test (trees (views es)) ≡ true
short_of_two test [] h = refl
short_of_two test (a ∷ []) h = refl
short_of_two test (a ∷ b ∷ es) h = absurd (omega (arith, h))
