use Rattle.std.proofs.lemmas.Simd.{length-chunk}
use lib.Lanes.{chunk}
use Rattle.pawk_records.proofs.LineEndsLemmas.{lanes_are}
use Rattle.pawk_records.proofs.line_ends.lane_ends.Goals as goal

pub returns : goal.returns
returns c = lanes_are c.args.separator (chunk c.args.place 16 c.args.text.now) (length-chunk c.args.place 16 c.args.text.now c.requires)
