use Rattle.std.proofs.Common.{◌≡◌, ◌++◌}
use Rattle.std.specs.List.{Contains}
use Rattle.pawk_words.specs.Words.{written_all}
use Rattle.pawk_lines.specs.Names.{spelling}
use Rattle.std.proofs.lemmas.Result.{err_from_is_err_and}
use Rattle.pawk_lines.specs.declared.name.TheConstants.{MARK_NAMES}
use Rattle.pawk_lines.specs.declared.name.Name.TheVariants as a
use Rattle.pawk_lines.specs.Lines.{shown_mark, IsMark, mark_words}
use Rattle.pawk_lines.specs.Reading.{OneOf, Marks, AfterMark, IsMarkAfter, Fails}
use Rattle.pawk_lines.proofs.Turns.{fail_first}
use Rattle.pawk_lines.proofs.Forms.{mark_turn, mark_some, mark_name, mark_front, mark_fails, match_weaker}
use Rattle.pawk_lines.proofs.read.read_mark.Goals as goal

pub returns-in_err-name : goal.returns-in_err-name
returns-in_err-name c =
    let p = err_from_is_err_and c.from_residual.result c.from_residual.ensures.1 in
    rw (p.1, p.2) (fail_first (OneOf MARK_NAMES) (λ xs ys. Marks (xs ++ ys)) Marks c.args.bytes.now c.in_err-name.field-0.0 mark_turn mark_some c.in_err-name.ensures)

pub returns-in-Mark : goal.returns-in-Mark
returns-in-Mark c =
    let has : Contains MARK_NAMES (a.Mark c.in-Mark.mark) = rw c.in-Mark.is at c.in_ok-name.ensures.0 in
    let is : c.args.bytes.now ≡ spelling (a.Mark c.in-Mark.mark) ++ c.in_ok-name.rest.now = rw c.in-Mark.is at c.in_ok-name.ensures.1 in
    match_weaker c.after_mark_name.result
    (λ found. IsMarkAfter (a.Mark c.in-Mark.mark) c.in_ok-name.rest.now (shown_mark found.0) found.1.now)
    (λ found. IsMark (shown_mark found.0) × (c.args.bytes.now ≡ written_all (mark_words (shown_mark found.0)) ++ found.1.now))
    (Fails (AfterMark (a.Mark c.in-Mark.mark)) c.in_ok-name.rest.now) (Fails Marks c.args.bytes.now)
    (λ found h. mark_front (a.Mark c.in-Mark.mark) c.args.bytes.now c.in_ok-name.rest.now found.1.now (shown_mark found.0) is h)
    (λ f h. mark_fails (a.Mark c.in-Mark.mark) c.args.bytes.now c.in_ok-name.rest.now f has is h)
    c.after_mark_name.ensures

pub returns-in_default : goal.returns-in_default
returns-in_default c =
    let k = mark_name c.in_ok-name.name c.in_ok-name.ensures.0 in
    absurd (c.in_default.not-Mark k.0 k.1)
