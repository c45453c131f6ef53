use Rattle.pawk_sequential.proofs.FinishLemmas.{finishes}
use Rattle.pawk_sequential.proofs.whole.close.Goals as goal

pub returns : goal.returns
returns g c = finishes _ (g.W.World.state c.run_end.new.world) c.run_end.new.run c.in_ok-ending.ending c.of.result c.in_ok-ending.ensures c.of.ensures.output c.of.ensures.ending c.of.ensures.specials
