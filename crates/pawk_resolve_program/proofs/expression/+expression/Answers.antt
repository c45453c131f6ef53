use Rattle.std.proofs.Common.{◌≢◌, length, ap, ◌∙◌, arith}
use Rattle.std.proofs.lemmas.List.{take_all}
use Rattle.pawk_code.specs.Expressions.{exprs, arguments}
use Rattle.pawk_resolve.specs.ScopeViews.{scope_view}
use Rattle.pawk_resolve_program.proofs.Walks.{all_codes, all_passed}
use Rattle.pawk_resolve_program.proofs.Counts.{none_or_many}
use Rattle.pawk_resolve_program.proofs.expression.+expression.Goals as goal

pub list-returns : goal.list-returns
list-returns t c =
    let s = scope_view c.args.scope.now in
    let whole = rw (take_all c.loop-tree.tree-index c.args.list.now (omega arith)) at c.loop-tree.invariant in
    ap exprs whole ∙ all_codes s c.args.list.now

pub arguments-returns : goal.arguments-returns
arguments-returns t c =
    let s = scope_view c.args.scope.now in
    let whole = rw (take_all c.loop-tree.tree-index c.args.list.now (omega arith)) at c.loop-tree.invariant in
    ap arguments whole ∙ all_passed s c.args.list.now

pub builtin-returns-in_default : goal.builtin-returns-in_default
builtin-returns-in_default t c =
    let trees = c.args.arguments.now in
    let one : length trees ≢ 1 = omega arith in
    let two : length trees ≢ 2 = omega arith in
    let three : length trees ≢ 3 = omega arith in
    c.nothing-in_default.ensures ∙ none_or_many (scope_view c.args.scope.now) _ trees _ one two three
