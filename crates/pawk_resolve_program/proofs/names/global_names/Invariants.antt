use Rattle.std.proofs.Common.{◌≡◌, ◌++◌, map, drop}
use Rattle.std.specs.List.{flat_map}
use Rattle.pawk_syntax_tree.specs.Item.{part}
use Rattle.pawk_resolve.specs.Tables.{texts}
use Rattle.pawk_resolve.specs.ResolvedPrograms as spec
use Rattle.pawk_resolve_program.proofs.names.global_names.Given as goal

abbrev pub invariant-loop-item : goal.invariant-loop-item
invariant-loop-item l = texts l.names.items ++ flat_map spec.global_names (map part (drop l.item-index l.items)) ≡ flat_map spec.global_names (map part l.items)
