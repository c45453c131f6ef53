use Rattle.pawk_lex.proofs.CutLaws.{gap_before, gap_after}
use Rattle.pawk_lex.proofs.laws.spacing_is_free.Goals as goal

pub returns-clause-before : goal.returns-clause-before
returns-clause-before c divides gap text ts g k = gap_before g k

pub returns-clause-after : goal.returns-clause-after
returns-clause-after c divides x y text b t ts w m s e g k = gap_after x w m s e g k
