use Rattle.std.proofs.Common.{◌≡◌, ◌+◌, map, drop}
use Rattle.pawk_lex.specs.Bytes.{Text}
use Rattle.pawk_syntax_tree.specs.Item.{part}
use Rattle.pawk_syntax_check.specs.Functions.{or_else, function_from, function_of}
use Rattle.pawk_syntax_check.specs.FunctionViews.{function_under}
use Rattle.pawk_syntax_check.proofs.functions.Functions.new.Given as goal

abbrev pub invariant-loop-index : goal.invariant-loop-index
invariant-loop-index l = (x : Text) →
    or_else (function_under l.functions x) (function_from (l.index + 1) (map part (drop l.index l.items)) x) ≡ function_of (map part l.items) x
