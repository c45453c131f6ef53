use Rattle.std.proofs.Common.{[], ◌∷◌, ◌++◌}
use Rattle.std.proofs.lemmas.Result.{err_from_is_err_and}
use Rattle.pawk_lines.specs.Lines.{format, program, budget}
use Rattle.pawk_parts.specs.Parts.{all_bytes}
use Rattle.pawk_tables.proofs.Fronts.{first_line, after_line}
use Rattle.pawk_tables.proofs.header.read_program.Goals as goal

pub returns-in_err-rest : goal.returns-in_err-rest
returns-in_err-rest c =
    let p = err_from_is_err_and c.from_residual.result c.from_residual.ensures.1 in
    rw p.1 (λ t n q b.
    let others = program t ∷ budget n ∷ [] in
    c.in_err-rest.ensures (all_bytes others ++ q) (first_line c.args.bytes.now q (format 1) others b))

pub returns-in_err-program : goal.returns-in_err-program
returns-in_err-program c =
    let p = err_from_is_err_and c.from_residual-in_err-program.result c.from_residual-in_err-program.ensures.1 in
    let rest = c.in_ok-rest.rest.now in
    rw p.1 (λ t n q b.
    let others = budget n ∷ [] in
    let a = after_line c.args.bytes.now rest q (format 1) (format 1) (program t ∷ others) c.in_ok-rest.ensures b in
    c.in_err-program.ensures t (all_bytes others ++ q) (first_line rest q (program t) others a.others))

pub returns-in_err-budget : goal.returns-in_err-budget
returns-in_err-budget c =
    let p = err_from_is_err_and c.from_residual-in_err-budget.result c.from_residual-in_err-budget.ensures.1 in
    let rest = c.in_ok-rest.rest.now in
    let next = c.in_ok-program.rest.now in
    rw p.1 (λ t n q b.
    let a = after_line c.args.bytes.now rest q (format 1) (format 1) (program t ∷ budget n ∷ []) c.in_ok-rest.ensures b in
    let d = after_line rest next q (program c.in_ok-program.program.now) (program t) (budget n ∷ []) c.in_ok-program.ensures a.others in
    c.in_err-budget.ensures n (all_bytes [] ++ q) (first_line next q (budget n) [] d.others))
