use Rattle.std.proofs.Common.{◌∷◌, refl}
use Rattle.std.proofs.lemmas.Result.{err_from_is_err_and}
use Rattle.pawk_words.specs.declared.word.Gap.TheVariants.{Space}
use Rattle.pawk_words.specs.Words.{text}
use Rattle.pawk_lines.specs.declared.name.Name.TheVariants as a
use Rattle.pawk_lines.specs.Lines.{shown_mark, mark_words}
use Rattle.pawk_lines.specs.Reading.{Texts, Marks}
use Rattle.pawk_lines.proofs.Forms.{texts_code, text_field, fail_line, two_first, two_next, some_mark, more_front}
use Rattle.pawk_lines.proofs.read.read_element.Goals as goal

pub returns-in_err-key : goal.returns-in_err-key
returns-in_err-key c =
    let p = err_from_is_err_and c.from_residual.result c.from_residual.ensures.1 in
    rw (p.1, p.2) (fail_line a.Element c.args.bytes.now c.in_err-key.field-0.0 (two_first (Texts Space) Marks c.args.bytes.now c.in_err-key.field-0.0 (texts_code Space) some_mark c.in_err-key.ensures))

pub returns-in_err-mark : goal.returns-in_err-mark
returns-in_err-mark c =
    let p = err_from_is_err_and c.from_residual-in_err-mark.result c.from_residual-in_err-mark.ensures.1 in
    rw (p.1, p.2) (fail_line a.Element c.args.bytes.now c.in_err-mark.field-0.0 (two_next (Texts Space) Marks c.args.bytes.now c.in_ok-key.rest.now (text c.in_ok-key.key.now) Space c.in_err-mark.field-0.0 (texts_code Space) (text_field c.in_ok-key.key.now Space c.in_ok-key.ensures.0) c.in_ok-key.ensures.1 c.in_err-mark.ensures))

pub returns : goal.returns
returns c = record {
  line = (c.in_ok-key.ensures.0, c.in_ok-mark.ensures.0);
  words = (text c.in_ok-key.key.now, Space) ∷ mark_words (shown_mark c.in_ok-mark.mark);
  is = refl;
  front = more_front c.args.bytes.now c.in_ok-key.rest.now c.in_ok-mark.rest.now (text c.in_ok-key.key.now) Space (mark_words (shown_mark c.in_ok-mark.mark)) c.in_ok-key.ensures.1 c.in_ok-mark.ensures.1;
}
