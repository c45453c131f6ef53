use Rattle.std.proofs.lemmas.Simd.{length-chunk}
use lib.Lanes.{chunk}
use Rattle.pawk_fields.proofs.BlockBits.{lanes_are}
use Rattle.pawk_fields.proofs.blocks.lane_blanks.Goals as goal

pub returns : goal.returns
returns c = lanes_are (chunk c.args.place 16 c.args.text.now) (length-chunk c.args.place 16 c.args.text.now c.requires)
