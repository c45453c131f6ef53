use Rattle.std.proofs.Common.{◌∷◌, [], refl}
use Rattle.std.proofs.lemmas.Result.{err_from_is_err_and}
use Rattle.pawk_words.specs.declared.word.Gap.TheVariants.{Newline}
use Rattle.pawk_words.specs.Words.{text, number}
use Rattle.pawk_lines.specs.declared.name.MarkName.TheVariants as m
use Rattle.pawk_lines.proofs.Forms.{value_same, value_as, fail_mark, one_front}
use Rattle.pawk_lines.proofs.read.after_mark_name.Goals as goal

pub returns-in_err-number-in-Number : goal.returns-in_err-number-in-Number
returns-in_err-number-in-Number c =
    let p = err_from_is_err_and c.from_residual.result c.from_residual.ensures.1 in
    rw (p.1, p.2, c.in-Number.is) (fail_mark m.Number c.args.bytes.now c.in_err-number-in-Number.field-0.0 c.in_err-number-in-Number.ensures)

pub returns-in_ok-number-in-Number : goal.returns-in_ok-number-in-Number
returns-in_ok-number-in-Number c = rw c.in-Number.is (value_as c.args.bytes.now c.in_ok-number-in-Number.rest.now c.in_ok-number-in-Number.number _ (value_same c.in_ok-number-in-Number.number c.in_ok-number-in-Number.ensures.0) (record {
  mark = c.in_ok-number-in-Number.ensures.0;
  words = (number c.in_ok-number-in-Number.number, Newline) ∷ [];
  is = refl;
  front = one_front c.args.bytes.now c.in_ok-number-in-Number.rest.now (number c.in_ok-number-in-Number.number) Newline c.in_ok-number-in-Number.ensures.1;
}))

pub returns-in_err-text-in-Text : goal.returns-in_err-text-in-Text
returns-in_err-text-in-Text c =
    let p = err_from_is_err_and c.from_residual-in_err-text-in-Text.result c.from_residual-in_err-text-in-Text.ensures.1 in
    rw (p.1, p.2, c.in-Text.is) (fail_mark m.Text c.args.bytes.now c.in_err-text-in-Text.field-0.0 c.in_err-text-in-Text.ensures)

pub returns-in_ok-text-in-Text : goal.returns-in_ok-text-in-Text
returns-in_ok-text-in-Text c = rw c.in-Text.is (record {
  mark = c.in_ok-text-in-Text.ensures.0;
  words = (text c.in_ok-text-in-Text.text.now, Newline) ∷ [];
  is = refl;
  front = one_front c.args.bytes.now c.in_ok-text-in-Text.rest.now (text c.in_ok-text-in-Text.text.now) Newline c.in_ok-text-in-Text.ensures.1;
})

pub returns-in_err-text-in-Maybe : goal.returns-in_err-text-in-Maybe
returns-in_err-text-in-Maybe c =
    let p = err_from_is_err_and c.from_residual-in_err-text-in-Maybe.result c.from_residual-in_err-text-in-Maybe.ensures.1 in
    rw (p.1, p.2, c.in-Maybe.is) (fail_mark m.Maybe c.args.bytes.now c.in_err-text-in-Maybe.field-0.0 c.in_err-text-in-Maybe.ensures)

pub returns-in_ok-text-in-Maybe : goal.returns-in_ok-text-in-Maybe
returns-in_ok-text-in-Maybe c = rw c.in-Maybe.is (record {
  mark = c.in_ok-text-in-Maybe.ensures.0;
  words = (text c.in_ok-text-in-Maybe.text.now, Newline) ∷ [];
  is = refl;
  front = one_front c.args.bytes.now c.in_ok-text-in-Maybe.rest.now (text c.in_ok-text-in-Maybe.text.now) Newline c.in_ok-text-in-Maybe.ensures.1;
})
