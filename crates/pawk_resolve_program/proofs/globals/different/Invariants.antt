use Rattle.std.proofs.Common.{◌≡◌, map, drop}
use Rattle.pawk_resolve.specs.Slots.{with_texts, distinct}
use Rattle.pawk_resolve.specs.ScopeViews.{table_names}
use Rattle.pawk_resolve_program.proofs.globals.different.Given as goal

abbrev pub invariant-loop-text : goal.invariant-loop-text
invariant-loop-text l =
    with_texts (table_names l.table) (map (λ x. x.items) (drop l.text-index l.texts)) ≡ distinct (map (λ x. x.items) l.texts)
