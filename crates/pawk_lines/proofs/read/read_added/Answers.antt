use Rattle.std.proofs.Common.{◌∷◌, [], refl}
use Rattle.std.proofs.lemmas.Result.{err_from_is_err_and}
use Rattle.pawk_words.specs.declared.word.Gap.TheVariants.{Newline}
use Rattle.pawk_words.specs.Words.{number}
use Rattle.pawk_lines.specs.declared.name.MarkName.TheVariants as m
use Rattle.pawk_lines.proofs.Forms.{sum_word, sum_same, added_as, fail_mark, one_front}
use Rattle.pawk_lines.proofs.read.read_added.Goals as goal

pub returns-in_err-sum : goal.returns-in_err-sum
returns-in_err-sum c =
    let p = err_from_is_err_and c.from_residual.result c.from_residual.ensures.1 in
    rw (p.1, p.2) (fail_mark m.Added c.args.bytes.now c.in_err-sum.field-0.0 c.in_err-sum.ensures)

pub returns : goal.returns
returns c = added_as c.args.bytes.now c.in_ok-sum.rest.now c.in_ok-sum.sum _ (sum_same c.in_ok-sum.sum c.in_ok-sum.ensures.0) (record {
  mark = sum_word c.in_ok-sum.sum c.in_ok-sum.ensures.0;
  words = (number c.in_ok-sum.sum, Newline) ∷ [];
  is = refl;
  front = one_front c.args.bytes.now c.in_ok-sum.rest.now (number c.in_ok-sum.sum) Newline c.in_ok-sum.ensures.1;
})
