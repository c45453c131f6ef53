use Rattle.std.proofs.Common.{◌≡◌, ◌++◌, ◌+◌, map, drop}
use Rattle.pawk_syntax_tree.specs.Item.{part}
use Rattle.pawk_code.specs.ProgramViews.{function_view}
use Rattle.pawk_resolve.specs.ScopeViews.{globals_view}
use Rattle.pawk_resolve.specs.ResolvedPrograms.{functions_from}
use Rattle.pawk_resolve_program.proofs.actions.functions.Given as goal

abbrev pub invariant-loop-index : goal.invariant-loop-index
invariant-loop-index l =
    map function_view l.all.items ++ functions_from (globals_view l.globals) (l.index + 1) (map part (drop l.index l.items))
    ≡ functions_from (globals_view l.globals) 1 (map part l.items)
