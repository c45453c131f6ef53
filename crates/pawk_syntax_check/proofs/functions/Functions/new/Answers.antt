use Rattle.std.proofs.Common.{◌<◌, length, arith}
use Rattle.pawk_syntax_check.proofs.Tables.{or_else-or_else, one_more_item}
use Rattle.pawk_syntax_check.proofs.functions.Functions.new.Goals as goal

pub loop-index-preserved : goal.loop-index-preserved
loop-index-preserved c = λ x.
    let items = c.args.items.now in
    let below : c.loop-index.index < length items = omega arith in
    let more = rw (← c.index-items-index.is) at (one_more_item items c.loop-index.index c.index-items-index.result x below) in
    rw (c.in_ok-add.ensures x, or_else-or_else, ← more) (c.loop-index.invariant x)
