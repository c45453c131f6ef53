use Rattle.std.proofs.Common.{arith}
use Rattle.std.proofs.lemmas.List.{take_all}
use Rattle.std.proofs.lemmas.List.Folds.{list_all-map}
use Rattle.pawk_syntax_tree.specs.Item.{part}
use Rattle.pawk_syntax_check.specs.Views.{mention_view}
use Rattle.pawk_syntax_check.specs.FunctionViews.{function_under}
use Rattle.pawk_syntax_check.specs.Fits.{fits}
use Rattle.pawk_syntax_check.proofs.check.fault_among.Goals as goal

pub returns : goal.returns
returns c =
    let ms = c.args.mentions.now in
    let whole = rw (take_all c.loop-mention.mention-index ms (omega arith)) at c.loop-mention.invariant in
    rw (list_all-map (fits (function_under c.args.functions.now) (part c.args.item.now)) mention_view ms) whole
