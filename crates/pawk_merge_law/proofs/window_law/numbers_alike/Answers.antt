use Rattle.pawk_merge_law.proofs.FlowLemmas.{alike, last_fnr}
use Rattle.pawk_merge_law.proofs.window_law.numbers_alike.Goals as goal

pub returns-clause-numbers : goal.returns-clause-numbers
returns-clause-numbers g c = λ i eres code budget e file name nr fnr records. alike (g.P.Policy.calls i) eres code budget file 0 name nr 0 fnr records e

pub returns-clause-fnr : goal.returns-clause-fnr
returns-clause-fnr g c = λ i eres code budget e name nr fnr r records on. last_fnr (g.P.Policy.calls i) eres code budget name nr fnr r records e on
