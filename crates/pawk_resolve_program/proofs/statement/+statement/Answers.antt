use Rattle.std.proofs.Common.{ap, ◌∙◌, arith}
use Rattle.std.proofs.lemmas.List.{take_all}
use Rattle.pawk_code.specs.Statements.{stmts}
use Rattle.pawk_resolve.specs.ScopeViews.{scope_view}
use Rattle.pawk_resolve_program.proofs.Walks.{all_steps}
use Rattle.pawk_resolve_program.proofs.statement.+statement.Goals as goal

pub body-returns : goal.body-returns
body-returns t c =
    let s = scope_view c.args.scope.now in
    let whole = rw (take_all c.loop-x.x-index c.args.statements.now (omega arith)) at c.loop-x.invariant in
    ap stmts whole ∙ all_steps s c.args.statements.now
