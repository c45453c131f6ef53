use Rattle.pawk_merge.proofs.ExtentLemmas.{extent}
use Rattle.pawk_merge_law.proofs.ExtentLemmas.{first}
use Rattle.pawk_merge_law.proofs.window_law.merges_far.Goals as goal

pub returns-clause-far : goal.returns-clause-far
returns-clause-far c = λ results e on. extent results e on

pub returns-clause-first : goal.returns-clause-first
returns-clause-first c = first
