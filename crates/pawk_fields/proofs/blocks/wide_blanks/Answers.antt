use Rattle.std.proofs.Common.{◌+◌, ◌<◌, ◌≤◌, [], ◌∷◌, ◌++◌, length, drop, arith}
use Rattle.std.proofs.lemmas.List.{length-append, length-drop}
use Rattle.std.proofs.lemmas.Simd.{length-chunk}
use lib.Lanes.{chunk}
use Rattle.pawk_fields.proofs.BlockBits.{bits_fit, block_ends, block_goes}
use Rattle.pawk_fields.proofs.blocks.wide_blanks.Goals as goal
use Rattle.pawk_fields.proofs.blocks.wide_blanks.Goals.{then-text-middle-lt-LANES, else-text-middle-lt-LANES}

pub overflow_mul-result : goal.overflow_mul-result
overflow_mul-result c =
    let s = c.args.text.now in
    let from = c.args.from in
    let few : c.if-text-middle-lt-LANES.later < 65536 = elim c.if-text-middle-lt-LANES.branch [
      | then-text-middle-lt-LANES w ↦ (let last = drop (from + 16) s ++ 32 ∷ [] in
          let long : length last ≤ 16 = omega (arith, length-append (drop (from + 16) s) (32 ∷ []), length-drop (from + 16) s, w.if-text-middle-lt-LANES.true) in
          omega (arith, w.later-is, w.last_blanks-later.ensures, bits_fit last 16 long))
      | else-text-middle-lt-LANES w ↦ (let next = chunk (from + 16) 16 s in
          let long : length next ≤ 16 = omega (arith, length-chunk (from + 16) 16 s (omega (arith, c.requires, w.if-text-middle-lt-LANES.false))) in
          omega (arith, w.later-is, w.lane_blanks-later.ensures, bits_fit next 16 long))
    ] in
    record { fits = omega (arith, few) }

pub overflow_add-result : goal.overflow_add-result
overflow_add-result c =
    let s = c.args.text.now in
    let from = c.args.from in
    let lanes = chunk from 16 s in
    let long : length lanes ≤ 16 = omega (arith, length-chunk from 16 s c.requires) in
    let few = bits_fit lanes 16 long in
    let more : c.if-text-middle-lt-LANES.later < 65536 = elim c.if-text-middle-lt-LANES.branch [
      | then-text-middle-lt-LANES w ↦ (let last = drop (from + 16) s ++ 32 ∷ [] in
          let long : length last ≤ 16 = omega (arith, length-append (drop (from + 16) s) (32 ∷ []), length-drop (from + 16) s, w.if-text-middle-lt-LANES.true) in
          omega (arith, w.later-is, w.last_blanks-later.ensures, bits_fit last 16 long))
      | else-text-middle-lt-LANES w ↦ (let next = chunk (from + 16) 16 s in
          let long : length next ≤ 16 = omega (arith, length-chunk (from + 16) 16 s (omega (arith, c.requires, w.if-text-middle-lt-LANES.false))) in
          omega (arith, w.later-is, w.lane_blanks-later.ensures, bits_fit next 16 long))
    ] in
    record { fits = omega (arith, few, c.lane_blanks.ensures, more) }

pub returns : goal.returns
returns c =
    let s = c.args.text.now in
    let from = c.args.from in
    let n = c.lane_blanks.result in
    elim c.if-text-middle-lt-LANES.branch [
      | then-text-middle-lt-LANES w ↦ (rw w.later-is (block_ends s from n w.last_blanks-later.result c.requires (omega (arith, w.if-text-middle-lt-LANES.true, c.requires)) c.lane_blanks.ensures w.last_blanks-later.ensures))
      | else-text-middle-lt-LANES w ↦ (rw w.later-is (block_goes s from n w.lane_blanks-later.result (omega (arith, w.if-text-middle-lt-LANES.false, c.requires)) c.lane_blanks.ensures w.lane_blanks-later.ensures))
    ]
