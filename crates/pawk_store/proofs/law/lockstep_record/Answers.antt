use Rattle.pawk_store.proofs.Going.{track}
use Rattle.pawk_store.proofs.InRecords.{goes_record}
use Rattle.pawk_store.proofs.law.lockstep_record.Goals as goal

pub returns : goal.returns
returns g c = λ i step on on' eres functions rules may item m n same held.
    (goes_record {t = track (g.P.Pairing.pair i) step on on'} eres functions rules may (λ fs s x. tt) item).alike m n same held
