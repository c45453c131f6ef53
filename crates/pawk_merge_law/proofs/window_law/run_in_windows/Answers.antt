use Rattle.pawk_merge_law.proofs.StreamLemmas.{runs_in_windows}
use Rattle.pawk_merge_law.proofs.window_law.run_in_windows.Goals as goal

pub returns : goal.returns
returns c = λ p files s state on reads short windows out f rest whole none runs.
    runs_in_windows p c.chunks_merge.ensures (c.output_is_appended.ensures.records tt) (c.output_is_appended.ensures.behind tt)
    files s state on reads short windows out f rest whole none runs
