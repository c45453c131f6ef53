-- Code with rows that is known by an equation, as what it is seen to be.
use Rattle.std.proofs.Common.{◌≡◌, List, ap, sym, ◌∙◌, Vec, Global}
use Rattle.pawk_code.specs.declared.name.Array.{Array}
use Rattle.pawk_code.specs.declared.expression.Lvalue.{Lvalue}
use Rattle.pawk_code.specs.declared.expression.Lvalue as code_place
use Rattle.pawk_code.specs.declared.expression.Expr.{Expr}
use Rattle.pawk_code.specs.Expressions.{to_element, exprs}
use Rattle.pawk_code.specs.ExpressionViews.{views, place_view}
use Rattle.pawk_code.proofs.Rows.{view-Element}

pub element_shape : (p : Lvalue) (a : Array) (v : Vec Expr Global) (ks : List Expr) → p ≡ code_place.Element a v → ks ≡ v.items → place_view p ≡ to_element a (exprs (views ks))
element_shape p a v ks is same = ap place_view is ∙ view-Element a v ∙ ap (λ xs. to_element a (exprs (views xs))) (sym same)
