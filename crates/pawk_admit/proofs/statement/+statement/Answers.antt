use Rattle.std.proofs.Common.{◌≡◌, rules, ◌++◌, ap, ◌∙◌, append_assoc}
use Rattle.pawk_code.specs.ExpressionViews.{view}
use Rattle.pawk_code.specs.StatementViews.{stmt_view, head_view, seen}
use Rattle.pawk_admit.specs.declared.occurrence.Touch.TheVariants.{Assign, Walk}
use Rattle.pawk_admit.specs.Occurrences.{of_array, of_variable, of_expression, of_head, of_statement, of_body}
use Rattle.pawk_admit.proofs.Appends.{after}
use Rattle.pawk_admit.proofs.Shapes.{view-Choose, view-For, view-ForIn}
use Rattle.pawk_admit.proofs.statement.+statement.Goals as goal

pub statement-returns-in_ok-guarded-in-Choose : goal.statement-returns-in_ok-guarded-in-Choose
statement-returns-in_ok-guarded-in-Choose t c =
    let arm = c.in-Choose in
    after _ _ c.args.list.now.items c.guarded.new.list.items _ (of_expression (view arm.c) ++ of_body (seen arm.a.items)) (of_body (seen arm.b.items))
    (search rules) (search rules) (ap of_statement (ap stmt_view arm.is ∙ view-Choose arm.c arm.a arm.b))

pub statement-returns-in_ok-head-in-For : goal.statement-returns-in_ok-head-in-For
statement-returns-in_ok-head-in-For t c =
    let arm = c.in-For in
    after _ _ c.args.list.now.items c.head.new.list.items _ (of_head (head_view arm.h)) (of_body (seen arm.a.items))
    (search rules) (search rules) (ap of_statement (ap stmt_view arm.is ∙ view-For arm.h arm.a))

pub statement-returns-in_ok-array-in-ForIn : goal.statement-returns-in_ok-array-in-ForIn
statement-returns-in_ok-array-in-ForIn t c =
    let arm = c.in-ForIn in
    let front = of_variable Assign arm.key ++ of_array Walk arm.name in
    let heads : c.array.new.list.items ≡ c.args.list.now.items ++ front =
    rw (c.in_ok-array-in-ForIn.ensures, c.in_ok-variable-in-ForIn.ensures) (simp append_assoc) in
    after _ _ c.args.list.now.items c.array.new.list.items _ front (of_body (seen arm.a.items))
    (search rules) heads (ap of_statement (ap stmt_view arm.is ∙ view-ForIn arm.key arm.name arm.a))
