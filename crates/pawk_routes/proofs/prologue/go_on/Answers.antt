use Rattle.pawk_sequential.proofs.FinishLemmas.{answers}
use Rattle.pawk_routes.proofs.prologue.go_on.Goals as goal

pub returns-clause-outcome : goal.returns-clause-outcome
returns-clause-outcome c = answers _ c.run_after_begin.new.world c.in_ok-finish.finish c.of.result c.in_ok-finish.ensures.ends c.of.ensures
