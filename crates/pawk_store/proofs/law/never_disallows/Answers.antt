use Rattle.pawk_store.proofs.Alone.{never_disallows}
use Rattle.pawk_store.proofs.InRuns.{Program}
use Rattle.pawk_store.proofs.law.never_disallows.Goals as goal

pub returns : goal.returns
returns g c = λ i never eres code budget files s state.
    let p : Program = record { eres = eres; code = code; budget = budget } in
    never_disallows (g.P.Policy.calls i) never p files s state
