-- The text of an operator with its two operands.
use Rattle.std.proofs.Common.{◌≡◌, ◌++◌, ◌∷◌, sym, ap, ◌∙◌, OnOk}
use Rattle.std.specs.Prelude.{Result, Ok, Err, Box}
use Rattle.std.specs.Global.{Global}
use Rattle.pawk_lex.specs.Bytes.{Text}
use Rattle.pawk_syntax_tree.specs.declared.tree.Double.{Double}
use Rattle.pawk_syntax_tree.specs.declared.tree.ExpressionTree.{ExpressionTree, fold-roll-ExpressionTree}
use Rattle.pawk_syntax_tree.specs.declared.tree.ExpressionTree.TheOpen.{ExpressionTree-F}
use Rattle.pawk_syntax_tree.specs.declared.tree.ExpressionTree.TheVariants as code
use Rattle.pawk_syntax_tree.specs.declared.tree.ExpressionTree.TheVariants.{rolls-Binary}
use Rattle.pawk_syntax_tree.specs.Levels.{sign_of}
use Rattle.pawk_syntax_tree.specs.Tree.{Tree, binary, view, view_step}
use Rattle.pawk_syntax_show.specs.TreeText.{between_text, tree_text}
use Rattle.pawk_syntax_show.specs.Lengthening.{IsTextOf, Lengthens}

view_binary : (op : Double) (l r : Box ExpressionTree Global) → view (code.Binary op l r) ≡ binary op (view l.value) (view r.value)
view_binary op l r = ap view (sym (rolls-Binary op l r)) ∙ fold-roll-ExpressionTree Tree view_step (ExpressionTree-F.Binary op l r)

tree_written : {E : Type 0} (r : Result (Unit {0}) E) (old mid new sign : Text) (op : Double) (a d : Tree) → Lengthens old mid (λ rest. 40 ∷ tree_text a rest) → IsTextOf (between_text (sign_of op)) sign → OnOk r (Lengthens mid new (λ rest. sign ++ tree_text d (41 ∷ rest))) → OnOk r (Lengthens old new (tree_text (binary op a d)))
tree_written (Ok x) old mid new sign op a d first is second =
    λ rest. second rest ∙ first _ ∙ ap (λ z. old ++ 40 ∷ tree_text a z) (is (tree_text d (41 ∷ rest)))
tree_written (Err x) old mid new sign op a d first is second = tt

pub binary_written : {E : Type 0} (r : Result (Unit {0}) E) (old mid new sign : Text) (op : Double) (e a d : ExpressionTree) (left right : Box ExpressionTree Global) → e ≡ code.Binary op left right → a ≡ left.value → d ≡ right.value → Lengthens old mid (λ rest. 40 ∷ tree_text (view a) rest) → IsTextOf (between_text (sign_of op)) sign → OnOk r (Lengthens mid new (λ rest. sign ++ tree_text (view d) (41 ∷ rest))) → OnOk r (Lengthens old new (tree_text (view e)))
binary_written r old mid new sign op e a d left right whole first second one is two =
    let tree : view e ≡ binary op (view a) (view d) = rw (whole, first, second) (view_binary op left right) in
    rw tree (tree_written r old mid new sign op (view a) (view d) one is two)
