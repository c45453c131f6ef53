use Rattle.pawk_store.proofs.Going.{track}
use Rattle.pawk_store.proofs.InRecords.{records_in_step, first_left, second_left}
use Rattle.pawk_store.proofs.law.lockstep_records.Goals as goal

pub returns : goal.returns
returns g c = λ i step on on' final final' eres code may budget skip items e f same end end'.
    let t = track (g.P.Pairing.pair i) step on on' in (
      records_in_step t (λ fs s x. tt) final final' eres code may budget items skip e f same,
      first_left t (λ fs s x. tt) final final' eres code may budget items skip e end,
      second_left t (λ fs s x. tt) final final' eres code may budget items skip f end',
    )
