use Rattle.std.proofs.Common.{◌-◌, ◌≤◌, length, arith}
use Rattle.std.proofs.lemmas.Simd.{length-chunk}
use lib.Lanes.{chunk}
use Rattle.pawk_fields.proofs.BlockBits.{bits_fit, last_bits}
use Rattle.pawk_fields.proofs.blocks.last_blanks.Goals as goal

pub overflow_add-result : goal.overflow_add-result
overflow_add-result c =
    let s = c.args.text.now in
    let lanes = chunk (length s - 16) 16 s in
    let few : length lanes ≤ 16 = omega (arith, length-chunk (length s - 16) 16 s (omega (arith, c.requires.long))) in
    record { fits = omega (arith, c.lane_blanks.ensures, bits_fit lanes 16 few) }

pub returns : goal.returns
returns c = last_bits c.args.text.now c.args.from c.lane_blanks.result c.requires.long (omega (arith, c.requires.near)) c.requires.within c.lane_blanks.ensures
