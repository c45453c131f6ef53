use Rattle.std.proofs.lemmas.Result.{err_from_is_err_and}
use Rattle.pawk_lines.specs.Lines as lines
use Rattle.pawk_tables.proofs.header.read_budget.Goals as goal

pub returns-in_err-steps : goal.returns-in_err-steps
returns-in_err-steps c =
    let p = err_from_is_err_and c.from_residual.result c.from_residual.ensures.1 in
    rw p.1 (λ steps rest b. c.in_err-steps.ensures (lines.budget steps) rest b)
