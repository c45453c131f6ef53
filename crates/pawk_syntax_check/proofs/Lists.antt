-- What lists of expressions mention, one after the other.
use Rattle.std.proofs.Common.{◌≡◌, ℕ, suc, ◌<◌, List, [], ◌∷◌, ◌++◌, length, get_or, drop, refl, drop-cons, append_assoc, ap, Result, Ok, Err}
use Rattle.std.specs.Prelude.{OnOk}
use Rattle.pawk_syntax_tree.specs.declared.tree.ExpressionTree.{ExpressionTree}
use Rattle.pawk_syntax_tree.specs.Tree.{trees, view, views}
use Rattle.pawk_syntax_check.specs.Mentions.{Mention, Setting, role_at, mentions, inside_all, count}

pub one_more : (s : Setting) (es : List ExpressionTree) (i : ℕ) (d : ExpressionTree) → i < length es →
    inside_all s i (trees (views (drop i es))) ≡ mentions (role_at s i) (view (get_or es i d)) ++ inside_all s (suc i) (trees (views (drop (suc i) es)))
one_more s es i d h = rw (drop-cons es i d) refl

pub count_is : (es : List ExpressionTree) → count (trees (views es)) ≡ length es
count_is [] = refl
count_is (e ∷ es) = ap suc (count_is es)

-- some mentions, and then others
pub after : {E : Type 0} (r : Result (Unit {0}) E) (x a b inner front rest : List Mention) →
    OnOk r (x ≡ b ++ rest) → b ≡ a ++ front → inner ≡ front ++ rest → OnOk r (x ≡ a ++ inner)
after (Ok u) x a b inner front rest h e f = rw (h, e, f) (append_assoc a front rest)
after (Err e') x a b inner front rest h e f = tt
