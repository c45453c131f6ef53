use Rattle.std.proofs.Common.{◌≡◌, map, drop}
use Rattle.pawk_code.specs.ProgramViews.{function_view}
use Rattle.pawk_numbered.specs.Mentions.{in_functions}
use Rattle.pawk_numbered.proofs.program.in_functions.Given as goal

abbrev pub invariant-loop-function : goal.invariant-loop-function
invariant-loop-function l =
    in_functions (map function_view (drop l.function-index l.functions)) ≡ in_functions (map function_view l.functions)
