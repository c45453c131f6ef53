use Rattle.std.proofs.Common.{◌≡◌, ◌∷◌, sym, ◌∙◌, arith}
use Rattle.pawk_records.specs.Separator.{rs_of}
use Rattle.pawk_records.proofs.BlocksLemmas.{length_rest, mended_later, begins_later}
use Rattle.pawk_records.proofs.lent.LentBlocks.begins_at.Goals as goal

pub loop-bytes-preserved : goal.loop-bytes-preserved
loop-bytes-preserved c =
    let rs = rs_of c.args.separator in
    let rest = c.loop-bytes.rest in
    let b = c.in-Some.bytes.now in
    let later = c.next_block.new.self in
    let is : rest ≡ b ∷ later = c.in-Some.ensures in
    let held = c.loop-bytes.invariant in
    record {
      mended = mended_later rs rest b later is held.mended;
      within = omega (arith, length_rest rs rest b later is, held.within, c.if-left-bytes.false);
      same = sym (begins_later rs rest b later is held.mended c.loop-bytes.left (omega arith) held.within) ∙ held.same;
    }
