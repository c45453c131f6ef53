use Rattle.pawk_store.proofs.Going.{track}
use Rattle.pawk_store.proofs.InRuns.{Program, run_in_step, first_ended, second_ended}
use Rattle.pawk_store.proofs.law.lockstep_run.Goals as goal

pub returns : goal.returns
returns g c = λ i none step on on' final final' eres code may budget files s u state related.
    let t = track (g.P.Pairing.pair i) step on on' in
    let p : Program = record { eres = eres; code = code; budget = budget } in (
      run_in_step t (λ fs s x. tt) p may files s u state none final final' related,
      first_ended t (λ fs s x. tt) p may files s u state,
      second_ended t (λ fs s x. tt) p may files s u state,
    )
