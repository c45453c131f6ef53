use Rattle.std.proofs.Common.{◌≡◌, ◌++◌, take}
use Rattle.std.specs.List.{flat_map}
use Rattle.pawk_syntax_tree.specs.Item.{part}
use Rattle.pawk_syntax_check.specs.Views.{mention_view}
use Rattle.pawk_syntax_check.specs.FunctionViews.{function_under}
use Rattle.pawk_syntax_check.specs.Demands.{demands_of}
use Rattle.pawk_syntax_check.specs.DemandViews.{demands_in, AreNumbered}
use Rattle.pawk_syntax_check.proofs.demands.Demands.add_item.Given as goal

abbrev pub invariant-loop-mention : goal.invariant-loop-mention
invariant-loop-mention l = record {
  numbered : AreNumbered l.self;
  demands_so_far : demands_in l.self ≡ demands_in l.fn.self ++ flat_map (λ m. demands_of (function_under l.functions) l.number (part l.item) (mention_view m)) (take l.mention-index l.mention-items);
}
