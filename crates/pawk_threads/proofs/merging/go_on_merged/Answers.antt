use Rattle.pawk_sequential.proofs.FinishLemmas.{answers}
use Rattle.pawk_threads.proofs.merging.go_on_merged.Goals as goal

pub returns : goal.returns
returns c = answers _ c.end_merged.new.globals c.in_ok-finish.finish c.of.result c.in_ok-finish.ensures c.of.ensures
