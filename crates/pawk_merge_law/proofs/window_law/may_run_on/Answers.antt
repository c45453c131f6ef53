use Rattle.pawk_merge_law.proofs.PartingLemmas.{may_run_on}
use Rattle.pawk_merge_law.proofs.window_law.may_run_on.Goals as goal

pub returns : goal.returns
returns c = λ p may items none.
    may_run_on p c.trace_changes_nothing.ensures c.commutes.ensures c.starts_again.ensures may items none
