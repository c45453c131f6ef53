use Rattle.std.proofs.Common.{◌≡◌, ◌++◌, drop}
use Rattle.pawk_code.specs.StatementViews.{seen}
use Rattle.pawk_admit.specs.Occurrences.{of_body}
use Rattle.pawk_admit.proofs.statement.+statement.Given as goal

abbrev pub invariant-body-loop-x : goal.invariant-body-loop-x
invariant-body-loop-x l =
    l.list.items ++ of_body (seen (drop l.x-index l.statements)) ≡ l.fn.list.items ++ of_body (seen l.statements)
