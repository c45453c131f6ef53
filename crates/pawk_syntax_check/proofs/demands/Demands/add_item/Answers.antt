use Rattle.std.proofs.Common.{◌≡◌, map, arith, rules}
use Rattle.std.proofs.lemmas.List.{take_all}
use Rattle.pawk_syntax_tree.specs.Item.{part}
use Rattle.pawk_syntax_check.specs.Mentions.{of_part}
use Rattle.pawk_syntax_check.specs.Views.{mention_view}
use Rattle.pawk_syntax_check.specs.FunctionViews.{function_under}
use Rattle.pawk_syntax_check.specs.Demands.{demands_of}
use Rattle.pawk_syntax_check.proofs.KindLists.{flat_map-map}
use Rattle.pawk_syntax_check.proofs.demands.Demands.add_item.Goals as goal

pub returns-clause-demands : goal.returns-clause-demands
returns-clause-demands c =
    let ms = c.as_slice-mention-items.result.now in
    let whole = rw (take_all c.loop-mention.mention-index ms (omega arith)) at c.loop-mention.invariant.demands_so_far in
    let same : map mention_view ms ≡ of_part (part c.args.item.now) = search rules in
    rw (← same, flat_map-map (demands_of (function_under c.args.functions.now) c.args.number (part c.args.item.now)) mention_view ms) whole
