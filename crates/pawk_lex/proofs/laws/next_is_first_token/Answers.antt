use Rattle.pawk_lex.proofs.Fronts.{takes_found, gap_none}
use Rattle.pawk_lex.proofs.Sound.{next_sound, none_sound}
use Rattle.pawk_lex.proofs.laws.next_is_first_token.Goals as goal

pub returns-clause-token : goal.returns-clause-token
returns-clause-token c divides text t rest = (next_sound divides text t rest, λ k. takes_found k)

pub returns-clause-end : goal.returns-clause-end
returns-clause-end c divides text = (none_sound divides text, gap_none divides text)
