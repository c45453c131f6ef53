use Rattle.std.proofs.lemmas.List.{drop_more}
use Rattle.pawk_records.proofs.census.count_newlines.Goals as goal

pub split_at-requires : goal.split_at-requires
split_at-requires c =
    let i = c.loop-segment.segment-index in
    let counts = c.args.counts.now in
    let census = rw (drop_more counts i 0 c.loop-segment-test.true) at c.loop-segment.invariant.census in
    census.0
