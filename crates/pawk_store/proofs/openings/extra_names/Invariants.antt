use Rattle.std.proofs.Common.{◌≡◌, ◌++◌, drop}
use Rattle.pawk_store.specs.Openings.{Knows, texts_of, pairs_of, names_with}
use Rattle.pawk_store.proofs.openings.extra_names.Given as goal

abbrev pub invariant-loop-assignment : goal.invariant-loop-assignment
invariant-loop-assignment l =
    Knows l.known (texts_of l.names ++ texts_of l.extras.items)
    × (names_with (texts_of l.names ++ texts_of l.extras.items) (pairs_of (drop l.assignment-index l.assignments))
    ≡ names_with (texts_of l.names) (pairs_of l.assignments))
