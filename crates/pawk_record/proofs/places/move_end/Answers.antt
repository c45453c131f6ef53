use Rattle.std.proofs.Common.{◌+◌, set}
use Rattle.pawk_record.proofs.JoinLemmas.{moved_after, moves_more, moves_none}
use Rattle.pawk_record.proofs.places.move_end.Goals as goal

pub returns-then-end-range : goal.returns-then-end-range
returns-then-end-range c = moves_none c.args.number c.args.range c.args.end c.args.ranges.now c.requires.range c.if-end-range.true

pub returns : goal.returns
returns c =
    let there = set c.args.ranges.now c.args.number (record { start = c.args.range.0; end = c.args.end }) in
    moves_more c.args.number c.args.range c.args.end c.args.ranges.now _ c.requires.range
    (moved_after there c.move_all.new.ranges (c.args.number + 1) c.args.range.1 c.args.end c.move_all.ensures)
