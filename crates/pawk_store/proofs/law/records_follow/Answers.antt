use Rattle.pawk_store.proofs.Alone.{records_follow}
use Rattle.pawk_store.proofs.law.records_follow.Goals as goal

pub returns : goal.returns
returns g c = λ i steady final eres code may budget items more e h.
    records_follow (g.P.Policy.permits i) (g.P.Policy.calls i) steady final eres code may budget items more e h
