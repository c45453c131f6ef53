use Rattle.pawk_store.proofs.Alone.{reads_anew}
use Rattle.pawk_store.proofs.law.reads_anew.Goals as goal

pub returns : goal.returns
returns g c = λ i. reads_anew (g.P.Policy.calls i)
