use Rattle.pawk_store.proofs.Alone.{record_keeps}
use Rattle.pawk_store.proofs.law.record_keeps.Goals as goal

pub returns : goal.returns
returns g c = λ i steady final eres functions rules may item m held.
    record_keeps (g.P.Policy.permits i) (g.P.Policy.calls i) steady final eres functions rules may item m held
