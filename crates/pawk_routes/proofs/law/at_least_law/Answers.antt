use Rattle.pawk_routes.proofs.SizedLemmas.{is_planned}
use Rattle.pawk_routes.proofs.law.at_least_law.Goals as goal

pub returns : goal.returns
returns c = is_planned
