use Rattle.std.proofs.Common.{◌≡◌, [], drop}
use Rattle.pawk_store.specs.Openings.{pairs_of, with_assignments}
use Rattle.pawk_store.proofs.openings.last_assigned.Given as goal

abbrev pub invariant-loop-assignment : goal.invariant-loop-assignment
invariant-loop-assignment l =
    with_assignments (pairs_of (drop l.assignment-index l.assignments)) l.last
    ≡ with_assignments (pairs_of l.assignments) []
