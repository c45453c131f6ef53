use Rattle.std.proofs.Common.{sym, arith}
use Rattle.pawk_array.proofs.HeadLemmas.{head_less, head_greater}
use Rattle.pawk_array.proofs.headed.HeadedOrd.cmp.Goals as goal

pub returns-then-self-other : goal.returns-then-self-other
returns-then-self-other c =
    let x = c.args.self.now in
    let y = c.args.other.now in
    sym (head_less x.text.now y.text.now x.bytes y.bytes (omega (arith, c.if-self-other.true, x.is_head, y.is_head)))

pub returns-then-other-self : goal.returns-then-other-self
returns-then-other-self c =
    let x = c.args.self.now in
    let y = c.args.other.now in
    sym (head_greater x.text.now y.text.now x.bytes y.bytes (omega (arith, c.if-other-self.true, x.is_head, y.is_head)))
