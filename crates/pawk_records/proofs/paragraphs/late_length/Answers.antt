use Rattle.std.proofs.Common.{◌≡◌, ◌+◌, ◌<◌, true, false, cond, length, drop, ap, ◌∙◌, arith}
use Rattle.std.proofs.lemmas.List.{length-drop}
use Rattle.pawk_records.specs.Records.{ends_line}
use Rattle.pawk_records.specs.Paragraph.{paragraph_length}
use Rattle.pawk_records.proofs.ParagraphLemmas.{length_without, length_with, ends_at_end, ends_before_newline, goes_after, length_after}
use Rattle.pawk_records.proofs.paragraphs.late_length.Goals as goal
use Rattle.pawk_records.proofs.paragraphs.late_length.Goals.{then-end-text-via-then-end-text, then-end-text-via-else-end-text+then-text-end-eq-NEWLINE}

pub returns-in_default-clause-value : goal.returns-in_default-clause-value
returns-in_default-clause-value c =
    let s = c.args.text.now in
    let from = c.loop-from.from in
    let rest : paragraph_length (drop from s) ≡ length (drop from s) = length_without (drop from s) (rw c.split_at.ensures.back at c.in_default.ensures) in
    omega (arith, rest, length-drop from s, c.loop-from.invariant.none, c.loop-from.invariant.within)

pub returns-then-end-text-clause-value : goal.returns-then-end-text-clause-value
returns-then-end-text-clause-value c =
    let s = c.args.text.now in
    let from = c.loop-from.from in
    let i = c.in-Some.line in
    let first = rw c.split_at.ensures.back at c.in-Some.ensures in
    let ends : ends_line (drop (i + 1) (drop from s)) ≡ true = elim c.then-end-text.branch [
      | then-end-text-via-then-end-text w ↦ ends_at_end s from i w.if-end-text.true
      | then-end-text-via-else-end-text+then-text-end-eq-NEWLINE w ↦ ends_before_newline s from i w.if-text-end-eq-NEWLINE.true
    ] in
    let whole : paragraph_length (drop from s) ≡ i + 0 = length_with (drop from s) i first.0 first.1 ∙ ap (λ v. i + cond v 0 (1 + paragraph_length (drop (i + 1) (drop from s)))) ends in
    omega (arith, whole, c.loop-from.invariant.none)

pub loop-from-preserved : goal.loop-from-preserved
loop-from-preserved c =
    let s = c.args.text.now in
    let from = c.loop-from.from in
    let i = c.in-Some.line in
    let first = rw c.split_at.ensures.back at c.in-Some.ensures in
    let high : i < length (drop from s) = first.0.high in
    let within : from + i + 1 < length s = omega (arith, high, length-drop from s, c.if-end-text.false) in
    let goes : ends_line (drop (i + 1) (drop from s)) ≡ false = goes_after s from i within c.if-text-end-eq-NEWLINE.false in
    let whole : paragraph_length (drop from s) ≡ i + (1 + paragraph_length (drop (i + 1) (drop from s))) = length_with (drop from s) i first.0 first.1 ∙ ap (λ v. i + cond v 0 (1 + paragraph_length (drop (i + 1) (drop from s)))) goes in
    record {
      within = omega (arith, within);
      none = omega (arith, whole, length_after s from i, c.loop-from.invariant.none);
    }
