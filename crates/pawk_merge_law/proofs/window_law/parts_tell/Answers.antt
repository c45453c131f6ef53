use Rattle.pawk_merge_law.proofs.PartingLemmas.{parting}
use Rattle.pawk_merge_law.proofs.window_law.parts_tell.Goals as goal

pub returns : goal.returns
returns c = λ p items more on.
    parting p c.trace_changes_nothing.ensures c.trace_is_appended.ensures items more on
