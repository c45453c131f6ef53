use Rattle.pawk_prefilter.proofs.PassLemmas.{passes}
use Rattle.pawk_prefilter.proofs.law.pass_law.Goals as goal

pub returns : goal.returns
returns g c = passes g.W.World.calls
