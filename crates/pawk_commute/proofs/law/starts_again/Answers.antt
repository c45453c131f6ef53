use Rattle.pawk_commute.proofs.AgreementLemmas.{begins_again}
use Rattle.pawk_commute.proofs.law.starts_again.Goals as goal

pub returns : goal.returns
returns c = begins_again
