use Rattle.pawk_store.proofs.Going.{track}
use Rattle.pawk_store.proofs.InStatements.{goes_program}
use Rattle.pawk_store.proofs.law.lockstep.Goals as goal

pub returns : goal.returns
returns g c = λ i step on on' eres functions body may may' depth m n same held.
    (goes_program {t = track (g.P.Pairing.pair i) step on on'} eres functions body may may' depth).alike m n same held
