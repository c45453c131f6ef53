-- Expressions that hold lists, as the expressions that they are.
use Rattle.std.proofs.Common.{◌≡◌, ℕ, refl, ap, ◌∙◌}
use mathlib.Core.Former.{Count}
use Rattle.std.specs.declared.vec.Vec.{Vec}
use Rattle.std.specs.declared.alloc.Global.{Global}
use Rattle.pawk_code.specs.declared.name.Array.{Array}
use Rattle.pawk_code.specs.declared.expression.Lvalue.{Lvalue as CodePlace, Row_of-Expr, end_of-Expr, more_of-Expr, items-the_row-Expr, items_hidden-the_row-Expr-1}
use Rattle.pawk_code.specs.declared.expression.Lvalue as code_place
use Rattle.pawk_code.specs.declared.expression.Format.{Format as CodeFormat}
use Rattle.pawk_code.specs.declared.expression.Test.{Test as CodeTest}
use Rattle.pawk_code.specs.declared.expression.Test as code_test
use Rattle.pawk_code.specs.declared.expression.Textual.{Textual as CodeTextual}
use Rattle.pawk_code.specs.declared.expression.Textual as code_textual
use Rattle.pawk_code.specs.declared.expression.Expr.{Expr as CodeExpr, Row_of-Argument, end_of-Argument, more_of-Argument, items-the_row-Argument, items_hidden-the_row-Argument-0}
use Rattle.pawk_code.specs.declared.expression.Expr as code
use Rattle.pawk_code.specs.declared.expression.Argument.{Argument as CodeArgument}
use Rattle.pawk_code.specs.Expressions.{call, more, to_element, member, join, formatted, more_arguments, exprs, arguments}
use Rattle.pawk_code.specs.ExpressionViews.{view, views, place_view, test_view, textual_view, format_view, argument_view, argument_views, expr_row, argument_row}

expr_row_is : (n : _) (row : Row_of-Expr n) → expr_row row ≡ exprs (views (items-the_row-Expr n row))
expr_row_is n end_of-Expr = refl
expr_row_is n (more_of-Expr e rest) = ap (more (view e)) (expr_row_is _ rest)

argument_row_is : (n : _) (row : Row_of-Argument n) → argument_row row ≡ arguments (argument_views (items-the_row-Argument n row))
argument_row_is n end_of-Argument = refl
argument_row_is n (more_of-Argument a rest) = ap (more_arguments (argument_view a)) (argument_row_is _ rest)

abbrev row_in_expr : CodeExpr → (n : Count) × Row_of-Argument n
row_in_expr (code.Call' f _ row) = (_, row)
row_in_expr _ = (_, end_of-Argument)

abbrev row_in_place : CodePlace → (n : Count) × Row_of-Expr n
row_in_place (code_place.Element' a _ row) = (_, row)
row_in_place _ = (_, end_of-Expr)

abbrev row_in_test : CodeTest → (n : Count) × Row_of-Expr n
row_in_test (code_test.In' a _ row) = (_, row)
row_in_test _ = (_, end_of-Expr)

abbrev row_in_textual : CodeTextual → (n : Count) × Row_of-Expr n
row_in_textual (code_textual.Join' _ row) = (_, row)
row_in_textual (code_textual.Format' f _ row) = (_, row)
row_in_textual _ = (_, end_of-Expr)

pub view-Call : (f : ℕ) (v : Vec CodeArgument Global) → view (code.Call f v) ≡ call f (arguments (argument_views v.items))
view-Call f v =
    let row = row_in_expr (code.Call f v) in
    ap (call f) (argument_row_is row.0 row.1 ∙ ap (λ as'. arguments (argument_views as')) (items_hidden-the_row-Argument-0 v))

pub view-Element : (a : Array) (v : Vec CodeExpr Global) → place_view (code_place.Element a v) ≡ to_element a (exprs (views v.items))
view-Element a v =
    let row = row_in_place (code_place.Element a v) in
    ap (to_element a) (expr_row_is row.0 row.1 ∙ ap (λ es. exprs (views es)) (items_hidden-the_row-Expr-1 v))

pub view-In : (a : Array) (v : Vec CodeExpr Global) → test_view (code_test.In a v) ≡ member a (exprs (views v.items))
view-In a v =
    let row = row_in_test (code_test.In a v) in
    ap (member a) (expr_row_is row.0 row.1 ∙ ap (λ es. exprs (views es)) (items_hidden-the_row-Expr-1 v))

pub view-Join : (v : Vec CodeExpr Global) → textual_view (code_textual.Join v) ≡ join (exprs (views v.items))
view-Join v =
    let row = row_in_textual (code_textual.Join v) in
    ap join (expr_row_is row.0 row.1 ∙ ap (λ es. exprs (views es)) (items_hidden-the_row-Expr-1 v))

pub view-Format : (f : CodeFormat) (v : Vec CodeExpr Global) → textual_view (code_textual.Format f v) ≡ formatted (format_view f) (exprs (views v.items))
view-Format f v =
    let row = row_in_textual (code_textual.Format f v) in
    ap (formatted (format_view f)) (expr_row_is row.0 row.1 ∙ ap (λ es. exprs (views es)) (items_hidden-the_row-Expr-1 v))
