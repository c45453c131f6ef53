use Rattle.pawk_merge_law.proofs.WindowLemmas.{follow}
use Rattle.pawk_merge_law.proofs.window_law.windows_follow.Goals as goal

pub returns : goal.returns
returns c = λ p a windows out b is_open runs more.
    follow p c.chunks_merge.ensures (c.output_is_appended.ensures.records tt) b more windows a out is_open runs
