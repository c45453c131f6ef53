use Rattle.pawk_store.proofs.Alone.{records_keep}
use Rattle.pawk_store.proofs.law.records_keep.Goals as goal

pub returns : goal.returns
returns g c = λ i steady final eres code may budget items e h.
    records_keep (g.P.Policy.permits i) (g.P.Policy.calls i) steady final eres code may budget items e h
