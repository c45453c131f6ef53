use Rattle.std.proofs.Common.{[], arith}
use Rattle.pawk_records.specs.Begins.{begins_at}
use Rattle.pawk_records.proofs.CountLemmas.{count_place, flag_counts}
use Rattle.pawk_records.proofs.count.count_block_begins.Goals as goal

pub overflow_add-count : goal.overflow_add-count
overflow_add-count c =
    let flag = flag_counts _ _ c.from-count.result c.from-count.ensures c.begins_far_paragraph.ensures in
    omega (arith, flag.1, c.loop-place.invariant.few, c.loop-place-test.true, c.requires.few)

pub loop-place-preserved : goal.loop-place-preserved
loop-place-preserved c =
    let flag = flag_counts _ _ c.from-count.result c.from-count.ensures c.begins_far_paragraph.ensures in
    let here = count_place (begins_at [] c.args.bytes.now) c.args.end c.loop-place.place c.loop-place-test.true in
    record {
      few = omega (arith, flag.1, c.loop-place.invariant.few);
      same = omega (arith, flag.0, here, c.loop-place.invariant.same);
    }
