use Rattle.std.proofs.Common.{◌∷◌, [], refl}
use Rattle.std.proofs.lemmas.Result.{err_from_is_err_and}
use Rattle.pawk_words.specs.declared.word.Gap.TheVariants.{Space, Newline}
use Rattle.pawk_words.specs.Words.{text}
use Rattle.pawk_lines.specs.declared.name.Name.TheVariants as a
use Rattle.pawk_lines.specs.Lines.{count}
use Rattle.pawk_lines.specs.Reading.{Texts}
use Rattle.pawk_lines.proofs.Forms.{Counts, counts_code, count_field, fail_line, two_first, two_next, some_text, one_front, more_front}
use Rattle.pawk_lines.proofs.read.read_last.Goals as goal

pub returns-in_err-fnr : goal.returns-in_err-fnr
returns-in_err-fnr c =
    let p = err_from_is_err_and c.from_residual.result c.from_residual.ensures.1 in
    rw (p.1, p.2) (fail_line a.Last c.args.bytes.now c.in_err-fnr.field-0.0 (two_first (Counts Space) (Texts Newline) c.args.bytes.now c.in_err-fnr.field-0.0 (counts_code Space) (some_text Newline) c.in_err-fnr.ensures))

pub returns-in_err-bytes : goal.returns-in_err-bytes
returns-in_err-bytes c =
    let p = err_from_is_err_and c.from_residual-in_err-bytes.result c.from_residual-in_err-bytes.ensures.1 in
    rw (p.1, p.2) (fail_line a.Last c.args.bytes.now c.in_err-bytes.field-0.0 (two_next (Counts Space) (Texts Newline) c.args.bytes.now c.in_ok-fnr.rest.now (count c.in_ok-fnr.fnr) Space c.in_err-bytes.field-0.0 (counts_code Space) (count_field c.in_ok-fnr.fnr Space c.in_ok-fnr.ensures.0) c.in_ok-fnr.ensures.1 c.in_err-bytes.ensures))

pub returns : goal.returns
returns c = record {
  line = (c.in_ok-fnr.ensures.0, c.in_ok-bytes.ensures.0);
  words = (count c.in_ok-fnr.fnr, Space) ∷ (text c.in_ok-bytes.bytes.now, Newline) ∷ [];
  is = refl;
  front = more_front c.args.bytes.now c.in_ok-fnr.rest.now c.in_ok-bytes.rest.now (count c.in_ok-fnr.fnr) Space ((text c.in_ok-bytes.bytes.now, Newline) ∷ []) c.in_ok-fnr.ensures.1 (one_front c.in_ok-fnr.rest.now c.in_ok-bytes.rest.now (text c.in_ok-bytes.bytes.now) Newline c.in_ok-bytes.ensures.1);
}
