use Rattle.std.proofs.Common.{[], ◌-◌, ◌+◌, arith}
use Rattle.pawk_records.specs.Begins.{begins_at}
use Rattle.pawk_records.proofs.CountLemmas.{count_place, flag_counts}
use Rattle.pawk_records.proofs.PlaceLemmas.{length-places_where}
use Rattle.pawk_records.proofs.count.+count_paragraph_begins.Goals as goal

pub overflow_add-result : goal.overflow_add-result
overflow_add-result t c =
    let flag = flag_counts _ _ c.from-first.result c.from-first.ensures c.begins_paragraph.ensures in
    let most = length-places_where (begins_at [] c.args.bytes.now) (c.args.start + 1) (c.args.end - (c.args.start + 1)) in
    omega (arith, flag.1, most, c.count_paragraph_begins.ensures, c.if-start-end.false, c.requires.within, c.ranges.end)

pub returns : goal.returns
returns t c =
    let flag = flag_counts _ _ c.from-first.result c.from-first.ensures c.begins_paragraph.ensures in
    let here = count_place (begins_at [] c.args.bytes.now) c.args.end c.args.start c.if-start-end.false in
    omega (arith, flag.0, here, c.count_paragraph_begins.ensures)
