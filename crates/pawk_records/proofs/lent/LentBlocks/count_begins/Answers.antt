use Rattle.std.proofs.Common.{◌≡◌, ◌-◌, ◌∷◌, length, ap, ◌∙◌, arith}
use Rattle.pawk_records.specs.Begins.{begins_at}
use Rattle.pawk_records.specs.Separator.{rs_of}
use Rattle.pawk_records.proofs.PlaceLemmas.{length-places_where}
use Rattle.pawk_records.specs.Blocks.{joined}
use Rattle.pawk_records.proofs.BlocksLemmas.{length_rest, mended_later, count_both}
use Rattle.pawk_records.proofs.lent.LentBlocks.count_begins.Goals as goal

pub overflow_add-count : goal.overflow_add-count
overflow_add-count c =
    let rs = rs_of c.args.separator in
    let rest = c.loop-block.rest in
    let b = c.in-Some.block in
    let later = c.next_counted_bytes.new.self in
    let is : rest ≡ b ∷ later = c.in-Some.ensures in
    let held = c.loop-block.invariant in
    let both = count_both rs rest b later is held.mended c.loop-block.from c.loop-block.to held.rising held.within in
    let here = rw (c.min.ensures, c.min-in-Some.ensures, c.bytes-size.ensures) at c.count_begins-count.ensures in
    let few = length-places_where (begins_at rs (joined c.args.self.now)) c.args.start (c.args.end - c.args.start) in
    omega (arith, both, here, held.same, few)

pub loop-block-preserved : goal.loop-block-preserved
loop-block-preserved c =
    let rs = rs_of c.args.separator in
    let rest = c.loop-block.rest in
    let b = c.in-Some.block in
    let later = c.next_counted_bytes.new.self in
    let is : rest ≡ b ∷ later = c.in-Some.ensures in
    let held = c.loop-block.invariant in
    let both = count_both rs rest b later is held.mended c.loop-block.from c.loop-block.to held.rising held.within in
    let here = rw (c.min.ensures, c.min-in-Some.ensures, c.bytes-size.ensures) at c.count_begins-count.ensures in
    let from : c.saturating_sub-from.result ≡ c.loop-block.from - length b = c.saturating_sub-from.ensures ∙ ap (λ l. c.loop-block.from - length l) c.bytes-size.ensures in
    let to : c.saturating_sub-to.result ≡ c.loop-block.to - length b = c.saturating_sub-to.ensures ∙ ap (λ l. c.loop-block.to - length l) c.bytes-size.ensures in
    record {
      mended = mended_later rs rest b later is held.mended;
      rising = omega (arith, from, to, held.rising);
      within = omega (arith, to, held.within, length_rest rs rest b later is);
      same = rw (from, to) (omega (arith, both, here, held.same));
    }
