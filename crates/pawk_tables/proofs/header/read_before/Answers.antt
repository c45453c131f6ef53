use Rattle.std.proofs.lemmas.Result.{err_from_is_err_and}
use Rattle.pawk_lines.specs.Lines as lines
use Rattle.pawk_tables.proofs.header.read_before.Goals as goal

pub returns-in_err-records : goal.returns-in_err-records
returns-in_err-records c =
    let p = err_from_is_err_and c.from_residual.result c.from_residual.ensures.1 in
    rw p.1 (λ count rest b. c.in_err-records.ensures (lines.before count) rest b)
