use Rattle.pawk_merge_law.proofs.WindowNumberLemmas.{after_law, window_items_law}
use Rattle.pawk_merge_law.proofs.window_law.numbers_go_on.Goals as goal

pub returns-clause-plan : goal.returns-clause-plan
returns-clause-plan c = λ rs f plan is nr fnr. after_law rs f plan is nr fnr

pub returns-clause-windows : goal.returns-clause-windows
returns-clause-windows c = λ rs file name nr fnr windows. window_items_law rs file name nr fnr windows
