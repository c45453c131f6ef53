use Rattle.std.proofs.lemmas.Result.{err_from_is_err_and}
use Rattle.pawk_lines.specs.Lines as lines
use Rattle.pawk_tables.proofs.section.read_output.Goals as goal

pub returns-in_err-output : goal.returns-in_err-output
returns-in_err-output c =
    let p = err_from_is_err_and c.from_residual.result c.from_residual.ensures.1 in
    rw p.1 (λ output rest b. c.in_err-output.ensures (lines.output output) rest b)
