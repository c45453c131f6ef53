use Rattle.std.proofs.Common.{◌≡◌, map, take}
use Rattle.pawk_code.specs.StatementViews.{stmt_view}
use Rattle.pawk_resolve.specs.ScopeViews.{scope_view}
use Rattle.pawk_resolve_program.proofs.Walks.{step_of}
use Rattle.pawk_resolve_program.proofs.statement.+statement.Given as goal

abbrev pub invariant-body-loop-x : goal.invariant-body-loop-x
invariant-body-loop-x l = map stmt_view l.codes.items ≡ map (step_of (scope_view l.scope)) (take l.x-index l.statements)
