use Rattle.std.proofs.Common.{◌≡◌, take}
use Rattle.pawk_syntax_tree.specs.Item.{texts}
use Rattle.pawk_resolve.specs.ScopeViews.{table_names}
use Rattle.pawk_resolve_program.proofs.names.table_of.Given as goal

abbrev pub invariant-loop-name : goal.invariant-loop-name
invariant-loop-name l = table_names l.table ≡ texts (take l.name-index l.names)
