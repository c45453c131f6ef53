-- One key, and several.
use Rattle.std.proofs.Common.{◌≤◌, ◌<◌, List, [], ◌∷◌, length, OnOk, arith}
use Rattle.std.specs.Prelude.{Result}
use Rattle.pawk_lex.specs.Bytes.{Text}
use Rattle.pawk_syntax_tree.specs.declared.tree.ExpressionTree.{ExpressionTree}
use Rattle.pawk_syntax_tree.specs.Tree.{trees, views}
use Rattle.pawk_syntax_show.specs.TreeText.{keys_text, list_text, opening_text}
use Rattle.pawk_syntax_show.specs.Lengthening.{Lengthens}

pub few_keys : {E : Type 0} (r : Result (Unit {0}) E) (old new : Text) (xs : List ExpressionTree) → length xs < 2 → OnOk r (Lengthens old new (λ rest. 40 ∷ list_text (trees (views xs)) rest)) → OnOk r (Lengthens old new (λ rest. opening_text (keys_text (trees (views xs)) rest)))
few_keys r old new [] few h = h
few_keys r old new (x ∷ []) few h = h
few_keys r old new (x ∷ y ∷ zs) few h = absurd (omega arith)

pub many_keys : {E : Type 0} (r : Result (Unit {0}) E) (old new : Text) (xs : List ExpressionTree) → 2 ≤ length xs → OnOk r (Lengthens old new (λ rest. 40 ∷ 40 ∷ list_text (trees (views xs)) (41 ∷ rest))) → OnOk r (Lengthens old new (λ rest. opening_text (keys_text (trees (views xs)) rest)))
many_keys r old new [] many h = absurd (omega arith)
many_keys r old new (x ∷ []) many h = absurd (omega arith)
many_keys r old new (x ∷ y ∷ zs) many h = h
