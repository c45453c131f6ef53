use Rattle.std.proofs.Common.{◌∷◌, [], sym, subst}
use Rattle.std.proofs.lemmas.Result.{err_from_is_err_and}
use Rattle.pawk_words.specs.declared.word.Gap.TheVariants.{Newline}
use Rattle.pawk_words.specs.Words.{text}
use Rattle.pawk_lines.specs.declared.name.Name.TheVariants as a
use Rattle.pawk_lines.specs.Reading.{IsLineAfter}
use Rattle.pawk_lines.proofs.Forms.{fail_line, one_front, text_words, text_proper}
use Rattle.pawk_lines.proofs.read.after_text_name.Goals as goal

pub returns-in_err-text : goal.returns-in_err-text
returns-in_err-text c =
    let p = err_from_is_err_and c.from_residual.result c.from_residual.ensures.1 in
    rw (p.1, p.2) (fail_line (a.Text c.args.name) c.args.bytes.now c.in_err-text.field-0.0 c.in_err-text.ensures)

pub returns : goal.returns
returns c = subst (λ l. IsLineAfter (a.Text c.args.name) c.args.bytes.now l c.in_ok-text.rest.now) (sym c.line.ensures) (record {
  line = text_proper c.args.name c.in_ok-text.text.now c.in_ok-text.ensures.0;
  words = (text c.in_ok-text.text.now, Newline) ∷ [];
  is = text_words c.args.name c.in_ok-text.text.now;
  front = one_front c.args.bytes.now c.in_ok-text.rest.now (text c.in_ok-text.text.now) Newline c.in_ok-text.ensures.1;
})
