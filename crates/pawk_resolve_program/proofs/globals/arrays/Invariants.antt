use Rattle.std.proofs.Common.{◌≡◌, drop}
use Rattle.std.specs.Prelude.{filter}
use Rattle.pawk_syntax_check.specs.KindViews.{kinds_in}
use Rattle.pawk_resolve.specs.Slots.{with_texts, distinct}
use Rattle.pawk_resolve.specs.Tables.{texts}
use Rattle.pawk_resolve.specs.ScopeViews.{table_names}
use Rattle.pawk_resolve.specs.ResolvedPrograms.{is_global_array}
use Rattle.pawk_resolve_program.proofs.globals.arrays.Given as goal

abbrev pub invariant-loop-name : goal.invariant-loop-name
invariant-loop-name l =
    with_texts (table_names l.table) (filter (is_global_array (kinds_in l.kinds)) (texts (drop l.name-index l.names)))
    ≡ distinct (filter (is_global_array (kinds_in l.kinds)) (texts l.names))
