use Rattle.std.proofs.Common.{◌≡◌, drop}
use Rattle.std.specs.Prelude.{filter}
use Rattle.pawk_syntax_check.specs.KindViews.{kinds_in}
use Rattle.pawk_resolve.specs.Slots.{with_texts}
use Rattle.pawk_resolve.specs.Tables.{texts}
use Rattle.pawk_resolve.specs.ScopeViews.{table_names}
use Rattle.pawk_code.specs.FirstSlots.{first_scalars}
use Rattle.pawk_resolve.specs.ResolvedPrograms.{is_global_scalar}
use Rattle.pawk_resolve_program.proofs.globals.scalars.Given as goal

abbrev pub invariant-loop-name : goal.invariant-loop-name
invariant-loop-name l =
    with_texts (table_names l.table) (filter (is_global_scalar (kinds_in l.kinds)) (texts (drop l.name-index l.names)))
    ≡ with_texts first_scalars (filter (is_global_scalar (kinds_in l.kinds)) (texts l.names))
