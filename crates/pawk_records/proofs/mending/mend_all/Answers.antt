use Rattle.std.proofs.Common.{◌-◌, set, sym, ap, ◌∙◌, arith}
use Rattle.pawk_records.specs.Separator.{rs_of}
use Rattle.pawk_records.specs.Blocks.{joined}
use Rattle.pawk_records.proofs.MendingLemmas.{joined_pair, ended_pair, mended_all}
use Rattle.pawk_records.proofs.mending.mend_all.Goals as goal

pub returns-in_err-mend-clause-same : goal.returns-in_err-mend-clause-same
returns-in_err-mend-clause-same c =
    let front = c.split_at_mut-front.result.0.now in
    let back = c.split_at_mut-front.result.1.now in
    joined_pair front back (c.loop-i.i - 1) c.index-front-i.result c.index-back-0.result c.mend.new.self c.mend.new.next (omega arith) (omega arith) c.mend.ensures.same
    ∙ ap joined (sym c.split_at_mut-front.ensures.value) ∙ c.loop-i.invariant.same

pub loop-i-preserved : goal.loop-i-preserved
loop-i-preserved c =
    let front = c.split_at_mut-front.result.0.now in
    let back = c.split_at_mut-front.result.1.now in
    record {
      same = joined_pair front back (c.loop-i.i - 1) c.index-front-i.result c.index-back-0.result c.mend.new.self c.mend.new.next (omega arith) (omega arith) c.mend.ensures.same
          ∙ ap joined (sym c.split_at_mut-front.ensures.value) ∙ c.loop-i.invariant.same;
      ended = ended_pair (rs_of c.args.separator) c.loop-i.blocks front back (set back 0 c.mend.new.next) c.loop-i.i c.mend.new.self c.split_at_mut-front.ensures.value (omega arith) (omega arith) c.loop-i.invariant.ended c.in_ok-mend.ensures.mended;
    }

pub returns-clause-mended : goal.returns-clause-mended
returns-clause-mended c = mended_all (rs_of c.args.separator) c.loop-i.blocks (λ k lt. c.loop-i.invariant.ended k (omega arith))
