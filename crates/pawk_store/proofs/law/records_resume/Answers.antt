use Rattle.pawk_store.proofs.Alone.{records_resume}
use Rattle.pawk_store.proofs.law.records_resume.Goals as goal

pub returns : goal.returns
returns g c = λ i steady final eres code may budget items item more e h on.
    records_resume (g.P.Policy.permits i) (g.P.Policy.calls i) steady final eres code may budget items item more e h on
