use Rattle.std.proofs.Common.{◌≡◌, drop}
use Rattle.pawk_syntax_tree.specs.Item.{texts}
use Rattle.pawk_syntax_check.specs.FunctionViews.{function_under}
use Rattle.pawk_syntax_check.specs.Names.{fit_parameters}
use Rattle.pawk_syntax_check.proofs.heads.fit_parameters.Given as goal

abbrev pub invariant-loop-index : goal.invariant-loop-index
invariant-loop-index l = fit_parameters (function_under l.functions) (texts (drop l.index l.parameters)) ≡ fit_parameters (function_under l.functions) (texts l.parameters)
