use Rattle.std.proofs.Common.{sym, ◌∙◌}
use Rattle.pawk_words.proofs.Parts.{some_bytes, no_digit, led_by_zero, past_limit}
use Rattle.pawk_words.proofs.digits.decimal_front.Goals as goal

pub returns-then-not-is_empty : goal.returns-then-not-is_empty
returns-then-not-is_empty c =
    let digits = c.leading_digits-digits.ensures in
    no_digit c.args.bytes.now (sym digits.count ∙ c.if-digits-eq0.true) (some_bytes c.args.bytes.now (sym c.if-not-is_empty.true ∙ c.is_empty.ensures))

pub returns-then-bytes-eq48 : goal.returns-then-bytes-eq48
returns-then-bytes-eq48 c =
    let digits = c.leading_digits-digits.ensures in
    led_by_zero c.args.bytes.now c.leading_digits-digits.result.count digits.count digits.within c.if-digits-gt1.true c.if-bytes-eq48.true

pub returns-then-digits-gt-SIZE_LIMIT : goal.returns-then-digits-gt-SIZE_LIMIT
returns-then-digits-gt-SIZE_LIMIT c =
    let digits = c.leading_digits-digits.ensures in
    past_limit c.args.bytes.now c.leading_digits-digits.result.count c.leading_digits-digits.result.size digits.count digits.size c.if-digits-gt-SIZE_LIMIT.true
