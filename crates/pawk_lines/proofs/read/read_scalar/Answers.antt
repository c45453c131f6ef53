use Rattle.std.proofs.Common.{◌∷◌, refl}
use Rattle.std.proofs.lemmas.Result.{err_from_is_err_and}
use Rattle.pawk_words.specs.declared.word.Gap.TheVariants.{Space}
use Rattle.pawk_lines.specs.declared.name.Name.TheVariants as a
use Rattle.pawk_lines.specs.Lines.{count, shown_mark, mark_words}
use Rattle.pawk_lines.specs.Reading.{Marks}
use Rattle.pawk_lines.proofs.Forms.{Counts, counts_code, count_field, fail_line, two_first, two_next, some_mark, more_front}
use Rattle.pawk_lines.proofs.read.read_scalar.Goals as goal

pub returns-in_err-slot : goal.returns-in_err-slot
returns-in_err-slot c =
    let p = err_from_is_err_and c.from_residual.result c.from_residual.ensures.1 in
    rw (p.1, p.2) (fail_line a.Scalar c.args.bytes.now c.in_err-slot.field-0.0 (two_first (Counts Space) Marks c.args.bytes.now c.in_err-slot.field-0.0 (counts_code Space) some_mark c.in_err-slot.ensures))

pub returns-in_err-mark : goal.returns-in_err-mark
returns-in_err-mark c =
    let p = err_from_is_err_and c.from_residual-in_err-mark.result c.from_residual-in_err-mark.ensures.1 in
    rw (p.1, p.2) (fail_line a.Scalar c.args.bytes.now c.in_err-mark.field-0.0 (two_next (Counts Space) Marks c.args.bytes.now c.in_ok-slot.rest.now (count c.in_ok-slot.slot) Space c.in_err-mark.field-0.0 (counts_code Space) (count_field c.in_ok-slot.slot Space c.in_ok-slot.ensures.0) c.in_ok-slot.ensures.1 c.in_err-mark.ensures))

pub returns : goal.returns
returns c = record {
  line = (c.in_ok-slot.ensures.0, c.in_ok-mark.ensures.0);
  words = (count c.in_ok-slot.slot, Space) ∷ mark_words (shown_mark c.in_ok-mark.mark);
  is = refl;
  front = more_front c.args.bytes.now c.in_ok-slot.rest.now c.in_ok-mark.rest.now (count c.in_ok-slot.slot) Space (mark_words (shown_mark c.in_ok-mark.mark)) c.in_ok-slot.ensures.1 c.in_ok-mark.ensures.1;
}
