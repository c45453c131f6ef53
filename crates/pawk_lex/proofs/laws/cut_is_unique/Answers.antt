use Rattle.pawk_lex.proofs.CutLaws.{cut_unique}
use Rattle.pawk_lex.proofs.laws.cut_is_unique.Goals as goal

pub returns-clause-whole : goal.returns-clause-whole
returns-clause-whole c text ts us first second = cut_unique first second

pub returns-clause-from : goal.returns-clause-from
returns-clause-from c divides text ts us first second = cut_unique first second
