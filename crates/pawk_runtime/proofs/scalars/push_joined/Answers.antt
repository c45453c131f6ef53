use Rattle.pawk_runtime.proofs.Joining.{joined_next}
use Rattle.pawk_runtime.proofs.scalars.push_joined.Goals as goal

pub loop-number-preserved : goal.loop-number-preserved
loop-number-preserved c =
    rw (c.in_ok-extend_from_slice.ensures.items, c.in_ok-push_separator.ensures)
    (joined_next c.loop-number.out.items c.args.separator.now _ c.args.texts.now c.loop-number.number c.text.result.now c.text.ensures c.loop-number.invariant)
