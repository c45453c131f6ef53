use Rattle.std.proofs.Common.{◌∙◌}
use Rattle.pawk_value.proofs.RangeLemmas.{number_of_leading_digits}
use Rattle.pawk_value.proofs.numeral.unsigned_number.Goals as goal

pub returns : goal.returns
returns c =
    let digits = c.leading_digits-digits.ensures in
    c.number_of_digits.ensures ∙ number_of_leading_digits c.args.negative c.args.text.now _ _ _ c.split_at.ensures.back digits.count digits.value
