use Rattle.pawk_lex.proofs.CutLaws.{cut_writable}
use Rattle.pawk_lex.proofs.laws.tokens_are_writable.Goals as goal

pub returns : goal.returns
returns c divides text ts bytes k = cut_writable bytes k
