use Rattle.pawk_commute.proofs.AdmissionLemmas.{allows_main}
use Rattle.pawk_commute.proofs.law.admission_allows.Goals as goal

pub returns : goal.returns
returns c = λ i no are. allows_main i no are
