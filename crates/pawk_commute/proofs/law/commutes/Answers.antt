use Rattle.pawk_store.specs.Globals as globals
use Rattle.pawk_frozen.specs.Frozens as frozen
use Rattle.pawk_store.specs.Runs.{records_from}
use Rattle.pawk_commute.specs.Traces.{traced}
use Rattle.pawk_commute.specs.Commutation.{store_opening, chunk_opening}
use Rattle.pawk_commute.proofs.AnswerLemmas.{in_lockstep}
use Rattle.pawk_commute.proofs.OrderLemmas.{store_goes_on, store_final, chunk_goes_on, chunk_final}
use Rattle.pawk_commute.proofs.EndLemmas.{opens_alike, commuted}
use Rattle.pawk_commute.proofs.law.commutes.Goals as goal

pub returns : goal.returns
returns c = λ i begin may eres budget skip items state.
    let law = c.lockstep_records.ensures i (in_lockstep i begin) (store_goes_on i) (chunk_goes_on i begin) store_final chunk_final eres i.code may budget skip items
    (store_opening i state) (chunk_opening i state) (opens_alike i state begin) tt tt in
    commuted i begin
    (records_from (traced globals.calls) eres i.code budget skip (store_opening i state) items)
    (records_from frozen.calls eres i.code budget skip (chunk_opening i state) items)
    law.1 law.0
