use Rattle.std.proofs.Common.{◌≡◌}
use Rattle.std.proofs.lemmas.Result.{err_from_is_err_and}
use Rattle.pawk_lines.specs.Lines as lines
use Rattle.pawk_lines.specs.Lines.{BeginsLine}
use Rattle.pawk_lines.proofs.LineLaws.{line_same}
use Rattle.pawk_tables.proofs.header.read_format.Goals as goal

pub returns-in_err-number : goal.returns-in_err-number
returns-in_err-number c =
    let p = err_from_is_err_and c.from_residual.result c.from_residual.ensures.1 in
    rw p.1 (λ rest b. c.in_err-number.ensures (lines.format 1) rest b)

pub returns-else-number-eq-FORMAT : goal.returns-else-number-eq-FORMAT
returns-else-number-eq-FORMAT c rest b =
    let bytes = c.args.bytes.now in
    let number = c.in-Format-default.number in
    let here : BeginsLine bytes (lines.format number) c.in_ok-number.field-0.1.now = rw c.in-Format-default.is-0 at c.in_ok-number.ensures in
    let same : lines.format number ≡ lines.format 1 = (line_same bytes (lines.format number) (lines.format 1) c.in_ok-number.field-0.1.now rest here b).line in
    c.if-number-eq-FORMAT.false cc
