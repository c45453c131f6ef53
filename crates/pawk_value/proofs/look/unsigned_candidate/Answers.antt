use Rattle.std.proofs.Common.{◌≡◌, true, drop, sym, ap, ◌∙◌, Some}
use Rattle.std.specs.List.{list_all}
use Rattle.pawk_value.specs.Bytes.{is_blank, is_digit}
use Rattle.pawk_value.specs.Numeral.{after_while}
use Rattle.pawk_value.specs.Look.{has_digit, without_fraction, without_exponent}
use Rattle.pawk_value.proofs.RangeLemmas.{number_of_leading_digits}
use Rattle.pawk_value.proofs.look.unsigned_candidate.Goals as goal

pub returns : goal.returns
returns c =
    let digits = c.leading_digits-digits.ensures in
    let digit : has_digit c.args.text.now ≡ true = sym c.shows_digit.ensures ∙ c.if-not-shows_digit.false in
    let end = ap (λ n. list_all is_blank (without_exponent (without_fraction (drop n c.args.text.now)))) (sym digits.count) in
    let blanks : list_all is_blank (without_exponent (without_fraction (after_while is_digit c.args.text.now))) ≡ true =
    end ∙ sym (rw (c.past_exponent.ensures, c.past_fraction.ensures, c.split_at.ensures.back) at c.are_blanks.ensures) ∙ c.if-not-are_blanks.false in
    rw (digit, blanks) (ap Some (c.number_of_digits.ensures ∙ number_of_leading_digits c.args.negative c.args.text.now _ _ _ c.split_at.ensures.back digits.count digits.value))
