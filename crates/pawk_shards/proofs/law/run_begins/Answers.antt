use Rattle.pawk_shards.proofs.EndLemmas.{opens}
use Rattle.pawk_shards.proofs.law.run_begins.Goals as goal

pub returns : goal.returns
returns c = opens
