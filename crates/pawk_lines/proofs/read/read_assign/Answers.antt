use Rattle.std.proofs.Common.{◌∷◌, [], refl}
use Rattle.std.proofs.lemmas.Result.{err_from_is_err_and}
use Rattle.pawk_words.specs.declared.word.Gap.TheVariants.{Space, Newline}
use Rattle.pawk_words.specs.Words.{text}
use Rattle.pawk_lines.specs.declared.name.Name.TheVariants as a
use Rattle.pawk_lines.specs.Reading.{Texts}
use Rattle.pawk_lines.proofs.Forms.{texts_code, text_field, fail_line, two_first, two_next, some_text, one_front, more_front}
use Rattle.pawk_lines.proofs.read.read_assign.Goals as goal

pub returns-in_err-name : goal.returns-in_err-name
returns-in_err-name c =
    let p = err_from_is_err_and c.from_residual.result c.from_residual.ensures.1 in
    rw (p.1, p.2) (fail_line a.Assign c.args.bytes.now c.in_err-name.field-0.0 (two_first (Texts Space) (Texts Newline) c.args.bytes.now c.in_err-name.field-0.0 (texts_code Space) (some_text Newline) c.in_err-name.ensures))

pub returns-in_err-value : goal.returns-in_err-value
returns-in_err-value c =
    let p = err_from_is_err_and c.from_residual-in_err-value.result c.from_residual-in_err-value.ensures.1 in
    rw (p.1, p.2) (fail_line a.Assign c.args.bytes.now c.in_err-value.field-0.0 (two_next (Texts Space) (Texts Newline) c.args.bytes.now c.in_ok-name.rest.now (text c.in_ok-name.name.now) Space c.in_err-value.field-0.0 (texts_code Space) (text_field c.in_ok-name.name.now Space c.in_ok-name.ensures.0) c.in_ok-name.ensures.1 c.in_err-value.ensures))

pub returns : goal.returns
returns c = record {
  line = (c.in_ok-name.ensures.0, c.in_ok-value.ensures.0);
  words = (text c.in_ok-name.name.now, Space) ∷ (text c.in_ok-value.value.now, Newline) ∷ [];
  is = refl;
  front = more_front c.args.bytes.now c.in_ok-name.rest.now c.in_ok-value.rest.now (text c.in_ok-name.name.now) Space ((text c.in_ok-value.value.now, Newline) ∷ []) c.in_ok-name.ensures.1 (one_front c.in_ok-name.rest.now c.in_ok-value.rest.now (text c.in_ok-value.value.now) Newline c.in_ok-value.ensures.1);
}
