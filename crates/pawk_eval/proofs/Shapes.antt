-- Code with rows that is known by an equation, as what it is seen to be.
use Rattle.std.proofs.Common.{◌≡◌, ℕ, List, ap, sym, ◌∙◌, Vec, Global}
use Rattle.pawk_code.specs.declared.name.Array.{Array}
use Rattle.pawk_code.specs.declared.expression.Format.{Format}
use Rattle.pawk_code.specs.declared.expression.Test.{Test}
use Rattle.pawk_code.specs.declared.expression.Test as code_test
use Rattle.pawk_code.specs.declared.expression.Textual.{Textual}
use Rattle.pawk_code.specs.declared.expression.Textual as code_textual
use Rattle.pawk_code.specs.declared.expression.Expr.{Expr}
use Rattle.pawk_code.specs.declared.expression.Expr as code
use Rattle.pawk_code.specs.declared.expression.Argument.{Argument}
use Rattle.pawk_code.specs.declared.statement.Simple.{Simple}
use Rattle.pawk_code.specs.declared.statement.Statement.{Statement}
use Rattle.pawk_code.specs.declared.statement.Statement.TheVariants as statement
use Rattle.pawk_code.specs.declared.statement.Statement.TheVariants.{rolls-Simple, rolls-If, rolls-Choose, rolls-Do}
use Rattle.pawk_code.specs.declared.statement.Statement.TheOpen.{Statement-F}
use Rattle.pawk_code.specs.declared.statement.Statement.TheFolds.{fold-roll-Statement}
use Rattle.pawk_code.specs.Statements.{Stmt, simple, when, choose, do_while}
use Rattle.pawk_code.specs.StatementViews.{seen, simple_view, stmt_step, stmt_view}
use Rattle.pawk_code.specs.Expressions.{call, member, join, formatted, exprs, arguments}
use Rattle.pawk_code.specs.ExpressionViews.{view, views, test_view, textual_view, format_view, argument_views}
use Rattle.pawk_code.proofs.Rows.{view-Call, view-In, view-Join, view-Format}

pub call_shape : (e : Expr) (f : ℕ) (v : Vec Argument Global) (as' : List Argument) → e ≡ code.Call f v → as' ≡ v.items → view e ≡ call f (arguments (argument_views as'))
call_shape e f v as' is same = ap view is ∙ view-Call f v ∙ ap (λ xs. call f (arguments (argument_views xs))) (sym same)

pub member_shape : (t : Test) (a : Array) (v : Vec Expr Global) (ks : List Expr) → t ≡ code_test.In a v → ks ≡ v.items → test_view t ≡ member a (exprs (views ks))
member_shape t a v ks is same = ap test_view is ∙ view-In a v ∙ ap (λ xs. member a (exprs (views xs))) (sym same)

pub join_shape : (t : Textual) (v : Vec Expr Global) (es : List Expr) → t ≡ code_textual.Join v → es ≡ v.items → textual_view t ≡ join (exprs (views es))
join_shape t v es is same = ap textual_view is ∙ view-Join v ∙ ap (λ xs. join (exprs (views xs))) (sym same)

pub format_shape : (t : Textual) (f g : Format) (v : Vec Expr Global) (es : List Expr) → t ≡ code_textual.Format f v → g ≡ f → es ≡ v.items → textual_view t ≡ formatted (format_view g) (exprs (views es))
format_shape t f g v es is alike same = ap textual_view is ∙ view-Format f v ∙ ap (λ h. formatted (format_view h) (exprs (views v.items))) (sym alike) ∙ ap (λ xs. formatted (format_view g) (exprs (views xs))) (sym same)

-- ---- statements

pub simple_shape : (s : Statement) (x : Simple) → s ≡ statement.Simple x → stmt_view s ≡ simple (simple_view x)
simple_shape s x is = ap stmt_view (is ∙ sym (rolls-Simple x)) ∙ fold-roll-Statement Stmt stmt_step (Statement-F.Simple x)

pub if_shape : (s : Statement) (e : Expr) (v : Vec Statement Global) (body : List Statement) → s ≡ statement.If e v → body ≡ v.items → stmt_view s ≡ when (view e) (seen body)
if_shape s e v body is same =
    ap stmt_view (is ∙ sym (rolls-If e v)) ∙ fold-roll-Statement Stmt stmt_step (Statement-F.If e v) ∙ ap (λ xs. when (view e) (seen xs)) (sym same)

pub choose_shape : (s : Statement) (e : Expr) (v w : Vec Statement Global) (a b : List Statement) → s ≡ statement.Choose e v w → a ≡ v.items → b ≡ w.items → stmt_view s ≡ choose (view e) (seen a) (seen b)
choose_shape s e v w a b is same alike =
    ap stmt_view (is ∙ sym (rolls-Choose e v w)) ∙ fold-roll-Statement Stmt stmt_step (Statement-F.Choose e v w) ∙ ap (λ xs. choose (view e) (seen xs) (seen w.items)) (sym same) ∙ ap (λ xs. choose (view e) (seen a) (seen xs)) (sym alike)

pub do_shape : (s : Statement) (v : Vec Statement Global) (e : Expr) (body : List Statement) → s ≡ statement.Do v e → body ≡ v.items → stmt_view s ≡ do_while (seen body) (view e)
do_shape s v e body is same =
    ap stmt_view (is ∙ sym (rolls-Do v e)) ∙ fold-roll-Statement Stmt stmt_step (Statement-F.Do v e) ∙ ap (λ xs. do_while (seen xs) (view e)) (sym same)
