use Rattle.std.proofs.Common.{◌-◌, ◌+◌, ◌≤◌, [], arith}
use Rattle.pawk_records.specs.Begins.{begins_at}
use Rattle.pawk_records.proofs.CountLemmas.{count_parts}
use Rattle.pawk_records.proofs.PlaceLemmas.{length-places_where}
use Rattle.pawk_records.proofs.count.count_far_begins.Goals as goal

pub overflow_add-count : goal.overflow_add-count
overflow_add-count c =
    let from = c.loop-from.from in
    let size = c.min.result in
    let most = length-places_where (begins_at [] c.args.bytes.now) from (from + size - from) in
    let within : from + size ≤ c.args.end = omega (arith, c.min.ensures, c.loop-from-test.true) in
    omega (arith, most, within, c.from-count.ensures, c.count_block_begins.ensures, c.loop-from.invariant.few, c.requires.within, c.ranges.end)

pub loop-from-preserved : goal.loop-from-preserved
loop-from-preserved c =
    let from = c.loop-from.from in
    let size = c.min.result in
    let most = length-places_where (begins_at [] c.args.bytes.now) from (from + size - from) in
    let within : from + size ≤ c.args.end = omega (arith, c.min.ensures, c.loop-from-test.true) in
    let parts = count_parts (begins_at [] c.args.bytes.now) from size c.args.end within in
    record {
      low = omega (arith, c.loop-from.invariant.low);
      within = within;
      few = omega (arith, most, c.from-count.ensures, c.count_block_begins.ensures, c.loop-from.invariant.few);
      same = omega (arith, parts, c.from-count.ensures, c.count_block_begins.ensures, c.loop-from.invariant.same);
    }
