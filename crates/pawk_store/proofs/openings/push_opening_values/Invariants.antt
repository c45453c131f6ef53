use Rattle.std.proofs.Common.{◌≡◌, ℕ, List, [], ◌++◌, map, take}
use Rattle.pawk_value.specs.Value.{shown}
use Rattle.pawk_store.specs.Openings.{texts_of, opening_value, with_assignments}
use Rattle.pawk_store.proofs.openings.push_opening_values.Given as goal

abbrev pub invariant-loop-name : goal.invariant-loop-name
invariant-loop-name l =
    (pairs : List (List ℕ × List ℕ)) → l.last ≡ with_assignments pairs []
    → map shown l.scalars.items
    ≡ map shown l.fn.scalars.items ++ map (opening_value pairs) (texts_of (take l.name-index l.names))
