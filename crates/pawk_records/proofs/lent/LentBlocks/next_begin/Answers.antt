use Rattle.std.proofs.Common.{◌≡◌, inl, inr, ℕ, ◌+◌, ◌-◌, ◌<◌, ◌∷◌, length, ap, sym, ◌∙◌, arith}
use Rattle.std.proofs.lemmas.Bool.Decides.{leb_tells}
use Rattle.pawk_records.specs.Begins.{begins_at}
use Rattle.pawk_records.specs.Separator.{rs_of}
use Rattle.pawk_records.specs.Blocks.{joined}
use Rattle.pawk_records.proofs.BlocksLemmas.{length_rest, mended_later, begins_first, begins_after}
use Rattle.pawk_records.proofs.lent.LentBlocks.next_begin.Goals as goal

pub returns-in-Some-next_begin : goal.returns-in-Some-next_begin
returns-in-Some-next_begin c =
    let rs = rs_of c.args.separator in
    let rest = c.loop-bytes.rest in
    let b = c.in-Some.bytes.now in
    let later = c.next_block.new.self in
    let is : rest ≡ b ∷ later = c.in-Some.ensures in
    let held = c.loop-bytes.invariant in
    let before = c.loop-bytes.before in
    let place = c.in-Some-next_begin.place in
    let first = c.in-Some-next_begin.ensures in
    let long = length_rest rs rest b later is in
    let here : (k : ℕ) → k < length b → begins_at rs (joined c.args.self.now) (before + k) ≡ begins_at rs b k =
    λ k lt. held.same k (omega (arith, long)) ∙ begins_first rs rest b later is k lt in (
      record {
        low = omega (arith, first.0.low, c.saturating_sub.ensures);
        high = omega (arith, first.0.high, long, held.size);
        before = λ k low high begins. elim (leb_tells before k) [
          | inl past ↦ (
              let at : before + (k - before) ≡ k = omega (arith, past.1) in
              first.0.before (k - before) (omega (arith, c.saturating_sub.ensures, past.1)) (omega (arith, past.1))
              (sym (here (k - before) (omega (arith, first.0.high, past.1))) ∙ ap (begins_at rs (joined c.args.self.now)) at ∙ begins))
          | inr front ↦ held.none k low (omega (arith, front.1)) begins
        ];
      },
      here place first.0.high ∙ first.1,
    )

pub loop-bytes-preserved : goal.loop-bytes-preserved
loop-bytes-preserved c =
    let rs = rs_of c.args.separator in
    let rest = c.loop-bytes.rest in
    let b = c.in-Some.bytes.now in
    let later = c.next_block.new.self in
    let is : rest ≡ b ∷ later = c.in-Some.ensures in
    let held = c.loop-bytes.invariant in
    let before = c.loop-bytes.before in
    let long = length_rest rs rest b later is in
    let here : (k : ℕ) → k < length b → begins_at rs (joined c.args.self.now) (before + k) ≡ begins_at rs b k =
    λ k lt. held.same k (omega (arith, long)) ∙ begins_first rs rest b later is k lt in
    record {
      mended = mended_later rs rest b later is held.mended;
      size = omega (arith, long, held.size);
      none = λ k low high begins. elim (leb_tells before k) [
        | inl past ↦ (
            let at : before + (k - before) ≡ k = omega (arith, past.1) in
            c.in_default-next_begin.ensures (k - before) (omega (arith, c.saturating_sub.ensures, past.1)) (omega (arith, past.1))
            (sym (here (k - before) (omega (arith, past.1))) ∙ ap (begins_at rs (joined c.args.self.now)) at ∙ begins))
        | inr front ↦ held.none k low (omega (arith, front.1)) begins
      ];
      same = λ k lt. (
          let at : before + length b + k ≡ before + (length b + k) = omega arith in
          ap (begins_at rs (joined c.args.self.now)) at ∙ held.same (length b + k) (omega (arith, long)) ∙ begins_after rs rest b later is held.mended k lt);
    }
