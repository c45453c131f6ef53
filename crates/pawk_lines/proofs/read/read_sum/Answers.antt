use Rattle.std.proofs.Common.{◌∷◌, [], refl}
use Rattle.std.proofs.lemmas.Result.{err_from_is_err_and}
use Rattle.pawk_words.specs.declared.word.Gap.TheVariants.{Space, Newline}
use Rattle.pawk_words.specs.Words.{number}
use Rattle.pawk_lines.specs.declared.name.MarkName.TheVariants as m
use Rattle.pawk_lines.proofs.Forms.{Sums, sums_code, sum_word, sum_same, sum_as, fail_mark, two_first, two_next, some_sum, two_sums, one_front, more_front}
use Rattle.pawk_lines.proofs.Turns.{Then}
use Rattle.pawk_lines.proofs.read.read_sum.Goals as goal

pub returns-in_err-total : goal.returns-in_err-total
returns-in_err-total c =
    let p = err_from_is_err_and c.from_residual.result c.from_residual.ensures.1 in
    rw (p.1, p.2) (fail_mark m.Sum c.args.bytes.now c.in_err-total.field-0.0 (two_first (Sums Space) (Then (Sums Space) (Sums Newline)) c.args.bytes.now c.in_err-total.field-0.0 (sums_code Space) two_sums c.in_err-total.ensures))

pub returns-in_err-least : goal.returns-in_err-least
returns-in_err-least c =
    let p = err_from_is_err_and c.from_residual-in_err-least.result c.from_residual-in_err-least.ensures.1 in
    rw (p.1, p.2) (fail_mark m.Sum c.args.bytes.now c.in_err-least.field-0.0 (two_next (Sums Space) (Then (Sums Space) (Sums Newline)) c.args.bytes.now c.in_ok-total.rest.now (number c.in_ok-total.total) Space c.in_err-least.field-0.0 (sums_code Space) (c.in_ok-total.total, c.in_ok-total.ensures.0, refl) c.in_ok-total.ensures.1 (two_first (Sums Space) (Sums Newline) c.in_ok-total.rest.now c.in_err-least.field-0.0 (sums_code Space) (some_sum Newline) c.in_err-least.ensures)))

pub returns-in_err-greatest : goal.returns-in_err-greatest
returns-in_err-greatest c =
    let p = err_from_is_err_and c.from_residual-in_err-greatest.result c.from_residual-in_err-greatest.ensures.1 in
    rw (p.1, p.2) (fail_mark m.Sum c.args.bytes.now c.in_err-greatest.field-0.0 (two_next (Sums Space) (Then (Sums Space) (Sums Newline)) c.args.bytes.now c.in_ok-total.rest.now (number c.in_ok-total.total) Space c.in_err-greatest.field-0.0 (sums_code Space) (c.in_ok-total.total, c.in_ok-total.ensures.0, refl) c.in_ok-total.ensures.1 (two_next (Sums Space) (Sums Newline) c.in_ok-total.rest.now c.in_ok-least.rest.now (number c.in_ok-least.least) Space c.in_err-greatest.field-0.0 (sums_code Space) (c.in_ok-least.least, c.in_ok-least.ensures.0, refl) c.in_ok-least.ensures.1 c.in_err-greatest.ensures)))

pub returns : goal.returns
returns c = sum_as c.args.bytes.now c.in_ok-greatest.rest.now c.in_ok-total.total c.in_ok-least.least c.in_ok-greatest.greatest _ _ _ (sum_same c.in_ok-total.total c.in_ok-total.ensures.0) (sum_same c.in_ok-least.least c.in_ok-least.ensures.0) (sum_same c.in_ok-greatest.greatest c.in_ok-greatest.ensures.0) (record {
  mark = (sum_word c.in_ok-total.total c.in_ok-total.ensures.0, sum_word c.in_ok-least.least c.in_ok-least.ensures.0, sum_word c.in_ok-greatest.greatest c.in_ok-greatest.ensures.0);
  words = (number c.in_ok-total.total, Space) ∷ (number c.in_ok-least.least, Space) ∷ (number c.in_ok-greatest.greatest, Newline) ∷ [];
  is = refl;
  front = more_front c.args.bytes.now c.in_ok-total.rest.now c.in_ok-greatest.rest.now (number c.in_ok-total.total) Space ((number c.in_ok-least.least, Space) ∷ (number c.in_ok-greatest.greatest, Newline) ∷ []) c.in_ok-total.ensures.1
      (more_front c.in_ok-total.rest.now c.in_ok-least.rest.now c.in_ok-greatest.rest.now (number c.in_ok-least.least) Space ((number c.in_ok-greatest.greatest, Newline) ∷ []) c.in_ok-least.ensures.1
      (one_front c.in_ok-least.rest.now c.in_ok-greatest.rest.now (number c.in_ok-greatest.greatest) Newline c.in_ok-greatest.ensures.1));
})
