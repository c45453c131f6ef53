use Rattle.std.proofs.Common.{◌≡◌, ◌++◌, ◌+◌, map, drop}
use Rattle.pawk_syntax_tree.specs.Item.{part}
use Rattle.pawk_syntax_check.specs.FunctionViews.{function_under}
use Rattle.pawk_syntax_check.specs.Demands.{demands_from}
use Rattle.pawk_syntax_check.specs.DemandViews.{demands_in, AreNumbered}
use Rattle.pawk_syntax_check.proofs.demands.Demands.new.Given as goal

abbrev pub invariant-loop-index : goal.invariant-loop-index
invariant-loop-index l = record {
  numbered : AreNumbered l.demands;
  demands_so_far : demands_in l.demands ++ demands_from (function_under l.functions) (l.index + 1) (map part (drop l.index l.items)) ≡ demands_from (function_under l.functions) 1 (map part l.items);
}
