-- A list of expressions with one more at its end.
use Rattle.std.proofs.Common.{◌≡◌, List, [], ◌∷◌, ◌++◌, refl, ap, sym, ◌∙◌}
use Rattle.std.specs.declared.vec.Vec.{Vec}
use Rattle.std.specs.declared.alloc.Global.{Global}
use Rattle.pawk_code.specs.declared.expression.Expr.{Expr}
use Rattle.pawk_code.specs.declared.expression.Expr as code
use Rattle.pawk_code.specs.declared.expression.Textual as code_textual
use Rattle.pawk_code.specs.Expressions.{more, textual, join, exprs}
use Rattle.pawk_code.specs.ExpressionViews.{view, views, textual_view}
use Rattle.pawk_code.proofs.Rows.{view-Join}
use Rattle.pawk_resolve.specs.Sorted.{snoc, parts_of, join_of}

snoc-exprs : (es : List Expr) (b : Expr) → exprs (views (es ++ b ∷ [])) ≡ snoc (exprs (views es)) (view b)
snoc-exprs [] b = refl
snoc-exprs (e ∷ es) b = ap (more (view e)) (snoc-exprs es b)

pub parts-Join : (v : Vec Expr Global) → exprs (views v.items) ≡ parts_of (textual (textual_view (code_textual.Join v)))
parts-Join v = ap (λ t. parts_of (textual t)) (sym (view-Join v))

pub join-Join : (a b : Expr) (old new : Vec Expr Global) → exprs (views old.items) ≡ parts_of (view a) → new.items ≡ old.items ++ b ∷ [] →
    view (code.Textual (code_textual.Join new)) ≡ join_of (view a) (view b)
join-Join a b old new e f =
    ap textual (view-Join new) ∙ ap (λ es. textual (join (exprs (views es)))) f ∙ ap (λ es. textual (join es)) (snoc-exprs old.items b) ∙
    ap (λ es. textual (join (snoc es (view b)))) e
