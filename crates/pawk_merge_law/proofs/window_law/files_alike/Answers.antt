use Rattle.pawk_merge_law.proofs.FilesLemmas.{files_alike}
use Rattle.pawk_merge_law.proofs.window_law.files_alike.Goals as goal

pub returns : goal.returns
returns g c = λ i eres code budget k skip e items. files_alike k (g.P.Policy.calls i) eres code budget items skip e
