use Rattle.pawk_store.specs.Globals.{calls}
use Rattle.pawk_store.specs.Runs.{records_from}
use Rattle.pawk_store.proofs.Everything.{any_code}
use Rattle.pawk_commute.specs.Traces.{traced}
use Rattle.pawk_commute.specs.TracedRuns.{plain}
use Rattle.pawk_commute.proofs.OrderLemmas.{store_final}
use Rattle.pawk_commute.proofs.TracedLemmas.{in_lockstep, first_goes_on, second_goes_on, plain_final, left_anyhow, plain_alike, in_step}
use Rattle.pawk_commute.proofs.law.trace_changes_nothing.Goals as goal

pub returns : goal.returns
returns c = λ eres code budget skip items e.
    let law = c.lockstep_records.ensures tt in_lockstep first_goes_on second_goes_on store_final plain_final eres code (any_code code).2 budget skip items
    e (plain e) (plain_alike e) (left_anyhow e.left) (left_anyhow e.left) in
    in_step
    (records_from (traced calls) eres code budget skip e items)
    (records_from calls eres code budget skip (plain e) items)
    law.0
