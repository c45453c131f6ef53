use Rattle.std.proofs.Common.{◌≡◌, ◌+◌, map, drop}
use Rattle.std.specs.Prelude.{◌&&◌}
use Rattle.std.specs.Option.{is_none}
use Rattle.pawk_syntax_tree.specs.Item.{part}
use Rattle.pawk_syntax_check.specs.FunctionViews.{function_under}
use Rattle.pawk_syntax_check.specs.Fits.{items_fit}
use Rattle.pawk_syntax_check.proofs.check.fault_in.Given as goal

abbrev pub invariant-loop-index : goal.invariant-loop-index
invariant-loop-index l =
    (is_none l.first && items_fit (function_under l.functions) (l.index + 1) (map part (drop l.index l.items))) ≡ items_fit (function_under l.functions) 1 (map part l.items)
