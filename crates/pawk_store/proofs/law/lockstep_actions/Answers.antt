use Rattle.pawk_store.proofs.Going.{track}
use Rattle.pawk_store.proofs.InRecords.{goes_actions}
use Rattle.pawk_store.proofs.law.lockstep_actions.Goals as goal

pub returns : goal.returns
returns g c = λ i step on on' eres functions bodies may may' m n same held.
    (goes_actions {t = track (g.P.Pairing.pair i) step on on'} eres functions may bodies may').alike m n same held
