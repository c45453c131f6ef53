use Rattle.std.proofs.Common.{◌≡◌, ◌+◌, false, [], length, sym, ◌∙◌, arith}
use Rattle.std.proofs.lemmas.List.{length-drop}
use Rattle.pawk_records.specs.Begins.{begins_at, BeginsAt}
use Rattle.pawk_records.proofs.FindLemmas.{no_paragraph, nowhere_joined}
use Rattle.pawk_records.proofs.paragraphs.next_paragraph.Goals as goal

pub returns-in_default : goal.returns-in_default
returns-in_default c =
    let s = c.args.bytes.now in
    let place = c.loop-place.place in
    let fails : begins_at [] s place ≡ false = sym c.begins_paragraph.ensures ∙ c.if-begins_paragraph.false in
    let none = rw c.split_at.ensures.back at c.in_default.ensures in
    nowhere_joined (BeginsAt [] s) c.args.from place (length s) c.loop-place.invariant.none
    (no_paragraph s place (length s) (omega arith) fails (λ k low high at. none k low (omega (arith, length-drop place s)) at))

pub loop-place-preserved : goal.loop-place-preserved
loop-place-preserved c =
    let s = c.args.bytes.now in
    let place = c.loop-place.place in
    let next = place + (c.in-Some.line + 1) in
    let fails : begins_at [] s place ≡ false = sym c.begins_paragraph.ensures ∙ c.if-begins_paragraph.false in
    let first = rw c.split_at.ensures.back at c.in-Some.ensures in
    record {
      low = omega (arith, c.loop-place.invariant.low);
      none = nowhere_joined (BeginsAt [] s) c.args.from place next c.loop-place.invariant.none
          (no_paragraph s place next (omega (arith, first.0.high, length-drop place s)) fails (λ k low high at. first.0.before k low (omega arith) at));
    }
