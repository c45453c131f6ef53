use Rattle.std.proofs.Common.{◌++◌}
use Rattle.std.proofs.lemmas.Result.{err_from_is_err_and}
use Rattle.pawk_lines.specs.declared.name.TheConstants.{LINE_NAMES}
use Rattle.pawk_lines.specs.Lines.{shown, BeginsLine}
use Rattle.pawk_lines.specs.Reading.{OneOf, Lines, AfterLine, IsLineAfter, Fails}
use Rattle.pawk_lines.proofs.Turns.{fail_first}
use Rattle.pawk_lines.proofs.Forms.{line_turn, line_some, line_front, line_fails, match_weaker}
use Rattle.pawk_lines.proofs.read.read_front.Goals as goal

pub returns-in_err-name : goal.returns-in_err-name
returns-in_err-name c =
    let p = err_from_is_err_and c.from_residual.result c.from_residual.ensures.1 in
    rw (p.1, p.2) (fail_first (OneOf LINE_NAMES) (λ xs ys. Lines (xs ++ ys)) Lines c.args.bytes.now c.in_err-name.field-0.0 line_turn line_some c.in_err-name.ensures)

pub returns : goal.returns
returns c = match_weaker c.after_line_name.result
    (λ found. IsLineAfter c.in_ok-name.name c.in_ok-name.rest.now (shown found.0) found.1.now)
    (λ found. BeginsLine c.args.bytes.now (shown found.0) found.1.now)
    (Fails (AfterLine c.in_ok-name.name) c.in_ok-name.rest.now) (Fails Lines c.args.bytes.now)
    (λ found h. line_front c.in_ok-name.name c.args.bytes.now c.in_ok-name.rest.now found.1.now (shown found.0) c.in_ok-name.ensures.1 h)
    (λ f h. line_fails c.in_ok-name.name c.args.bytes.now c.in_ok-name.rest.now f c.in_ok-name.ensures.0 c.in_ok-name.ensures.1 h)
    c.after_line_name.ensures
