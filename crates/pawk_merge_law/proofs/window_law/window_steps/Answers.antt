use Rattle.pawk_merge_law.proofs.WindowLemmas.{runs_to, one_more}
use Rattle.pawk_merge_law.proofs.window_law.window_steps.Goals as goal

pub returns-clause-step : goal.returns-clause-step
returns-clause-step c = λ p a w b is_open h more. runs_to p c.chunks_merge.ensures a w b more is_open h

pub returns-clause-more : goal.returns-clause-more
returns-clause-more c = λ p a windows out b w m h is_open step. one_more p w b m step windows a out h is_open
