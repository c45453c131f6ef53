use Rattle.std.proofs.Common.{◌≡◌, ℕ, ◌<◌, ◌≤◌, get_or, pos, ap, sym, ◌∙◌, arith, to_z}
use Rattle.std.specs.Int.{w128}
use Rattle.std.proofs.lemmas.Int.{ints}
use Rattle.std.proofs.lemmas.List.{get_or_past}
use Rattle.pawk_words.specs.declared.word.Word.TheVariants.{Number}
use Rattle.pawk_words.specs.Words.{number}
use Rattle.pawk_words.specs.Reading.{IsDecimalFront}
use Rattle.pawk_words.proofs.Parts.{some_bytes, no_bytes}
use Rattle.pawk_words.proofs.Readings.{digits_damaged, number_read, text_read, no_colon, colon_first}
use Rattle.pawk_words.proofs.read.read_from_digit.Goals as goal
use Rattle.pawk_words.proofs.read.read_from_digit.Goals.{then-is_empty-via-then-is_empty, then-is_empty-via-else-is_empty+then-rest-ne58}

at_most : {n : ℕ} → n < 1 → n ≤ 0
at_most h = omega arith

pub returns-in_default : goal.returns-in_default
returns-in_default c = digits_damaged c.args.bytes.now c.requires c.in_default.ensures

pub returns : goal.returns
returns c =
    let f : IsDecimalFront c.args.bytes.now c.in-Some.digits.count c.in-Some.digits.size = c.in-Some.ensures in
    let some = some_bytes c.split_at.result.1.now (sym c.if-is_empty.false ∙ c.is_empty.ensures) in
    text_read c.args.bytes.now c.after_first.result.now c.in-Some.digits.count c.in-Some.digits.size c.read_text.result f (omega (arith, f.longest))
    (colon_first c.args.bytes.now c.split_at.result.1.now c.after_first.result.now c.in-Some.digits.count c.split_at.ensures.back some c.if-rest-ne58.false c.after_first.ensures) c.read_text.ensures

pub returns-then-is_empty : goal.returns-then-is_empty
returns-then-is_empty c =
    let f : IsDecimalFront c.args.bytes.now c.in-Some.digits.count c.in-Some.digits.size = c.in-Some.ensures in
    let rest = c.split_at.result.1.now in
    let other : get_or c.split_at.result.1.now 0 0 ≡ 58 → ⊥ = λ e. elim c.then-is_empty.branch [
      | then-is_empty-via-then-is_empty w ↦ omega (arith, get_or_past c.split_at.result.1.now 0 0 (at_most (no_bytes c.split_at.result.1.now (sym w.if-is_empty.true ∙ c.is_empty.ensures))))
      | then-is_empty-via-else-is_empty+then-rest-ne58 w ↦ w.if-rest-ne58.true e
    ] in
    let word : to_z w128 c.in-Some.digits.size ≡ pos c.in-Some.digits.size = omega (arith, ints, f.small) in
    number_read c.args.bytes.now c.in-Some.digits.count c.in-Some.digits.size (Number (to_z w128 c.in-Some.digits.size)) c.with_gap.result f (omega (arith, f.longest))
    (no_colon c.args.bytes.now rest c.in-Some.digits.count c.split_at.ensures.back other) (ap number word) (rw c.split_at.ensures.back at c.with_gap.ensures)
