use Rattle.pawk_lex.specs.Canonical.{token_text}
use Rattle.pawk_lex.proofs.CutLaws.{written_again, token_first}
use Rattle.pawk_lex.proofs.laws.token_text_is_read_again.Goals as goal

pub returns-clause-writes : goal.returns-clause-writes
returns-clause-writes c = written_again

pub returns-clause-cut : goal.returns-clause-cut
returns-clause-cut c divides rest t ts w e s k = token_first (token_text t) (written_again t w) e s k
