use Rattle.std.proofs.Common.{◌≡◌, ◌++◌, map, drop}
use Rattle.std.specs.List.{flat_map}
use Rattle.pawk_syntax_tree.specs.Item.{part}
use Rattle.pawk_resolve.specs.ScopeViews.{table_names}
use Rattle.pawk_resolve.specs.ResolvedPrograms.{function_name}
use Rattle.pawk_resolve_program.proofs.globals.functions.Given as goal

abbrev pub invariant-loop-item : goal.invariant-loop-item
invariant-loop-item l = table_names l.table ++ flat_map function_name (map part (drop l.item-index l.items)) ≡ flat_map function_name (map part l.items)
