use Rattle.pawk_store.specs.Globals.{calls}
use Rattle.pawk_store.specs.Runs.{records_from}
use Rattle.pawk_store.proofs.Everything.{any_code}
use Rattle.pawk_commute.specs.Traces.{traced}
use Rattle.pawk_commute.specs.TracedRuns.{with_trace_before}
use Rattle.pawk_commute.proofs.OrderLemmas.{store_final}
use Rattle.pawk_commute.proofs.TracedLemmas.{first_goes_on, left_anyhow, longer_lockstep, longer_alike, longer_in_step}
use Rattle.pawk_commute.proofs.law.trace_is_appended.Goals as goal

pub returns : goal.returns
returns c = λ eres code budget skip items before e.
    let law = c.lockstep_records.ensures before (longer_lockstep before) first_goes_on first_goes_on store_final store_final eres code (any_code code).2 budget skip items
    (with_trace_before before e) e (longer_alike before e) (left_anyhow e.left) (left_anyhow e.left) in
    longer_in_step before
    (records_from (traced calls) eres code budget skip (with_trace_before before e) items)
    (records_from (traced calls) eres code budget skip e items)
    law.0
