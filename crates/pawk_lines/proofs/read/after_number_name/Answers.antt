use Rattle.std.proofs.Common.{◌∷◌, [], sym, subst}
use Rattle.std.proofs.lemmas.Result.{err_from_is_err_and}
use Rattle.pawk_words.specs.declared.word.Gap.TheVariants.{Newline}
use Rattle.pawk_lines.specs.declared.name.Name.TheVariants as a
use Rattle.pawk_lines.specs.Lines.{count}
use Rattle.pawk_lines.specs.Reading.{IsLineAfter}
use Rattle.pawk_lines.proofs.Forms.{fail_line, one_front, number_words, number_proper}
use Rattle.pawk_lines.proofs.read.after_number_name.Goals as goal

pub returns-in_err-number : goal.returns-in_err-number
returns-in_err-number c =
    let p = err_from_is_err_and c.from_residual.result c.from_residual.ensures.1 in
    rw (p.1, p.2) (fail_line (a.Number c.args.name) c.args.bytes.now c.in_err-number.field-0.0 c.in_err-number.ensures)

pub returns : goal.returns
returns c = subst (λ l. IsLineAfter (a.Number c.args.name) c.args.bytes.now l c.in_ok-number.rest.now) (sym c.line.ensures) (record {
  line = number_proper c.args.name c.in_ok-number.number c.in_ok-number.ensures.0;
  words = (count c.in_ok-number.number, Newline) ∷ [];
  is = number_words c.args.name c.in_ok-number.number;
  front = one_front c.args.bytes.now c.in_ok-number.rest.now (count c.in_ok-number.number) Newline c.in_ok-number.ensures.1;
})
