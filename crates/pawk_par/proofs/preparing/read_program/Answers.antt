use Rattle.std.proofs.Common.{rules, ◌≢◌}
use Rattle.pawk_lex.specs.declared.refusal.SyntaxRefusal.TheVariants as syntax_refusal
use Rattle.pawk_par.proofs.preparing.read_program.Goals as goal

pub returns-in-Err-clause-refused : goal.returns-in-Err-clause-refused
returns-in-Err-clause-refused c =
    let other : c.in-Err.why ≢ syntax_refusal.Memory = search rules in
    (other, λ canonical. other (c.in-Err.ensures.canonical canonical.0 canonical.1 canonical.2 canonical.3))
