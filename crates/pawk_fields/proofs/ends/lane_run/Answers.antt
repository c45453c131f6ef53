use Rattle.std.proofs.lemmas.Simd.{length-chunk}
use lib.Lanes.{chunk}
use Rattle.pawk_fields.proofs.EndLanes.{lanes_end, lanes_fit}
use Rattle.pawk_fields.proofs.ends.lane_run.Goals as goal

pub overflow_add-bits : goal.overflow_add-bits
overflow_add-bits c = record { fits = lanes_fit (chunk c.args.place 16 c.args.text.now) c.lane_blanks-bits.result (length-chunk c.args.place 16 c.args.text.now c.requires.room) c.lane_blanks-bits.ensures }

pub returns : goal.returns
returns c = lanes_end (chunk c.args.place 16 c.args.text.now) c.lane_blanks-bits.result c.args.skip (length-chunk c.args.place 16 c.args.text.now c.requires.room) c.requires.within c.lane_blanks-bits.ensures
