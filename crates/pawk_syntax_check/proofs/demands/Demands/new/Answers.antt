use Rattle.std.proofs.Common.{◌<◌, length, append_assoc, arith}
use Rattle.pawk_syntax_check.specs.FunctionViews.{function_under}
use Rattle.pawk_syntax_check.proofs.KindLists.{one_more_item}
use Rattle.pawk_syntax_check.proofs.demands.Demands.new.Goals as goal

pub loop-index-preserved : goal.loop-index-preserved
loop-index-preserved c =
    let items = c.args.items.now in
    let below : c.loop-index.index < length items = omega arith in
    let more = rw (← c.index-items-index.is) at (one_more_item (function_under c.args.functions.now) items c.loop-index.index c.index-items-index.result below) in
    record {
      numbered = c.in_ok-add_item.ensures.numbered;
      demands_so_far = rw (c.in_ok-add_item.ensures.demands, append_assoc, ← more) c.loop-index.invariant.demands_so_far;
    }
