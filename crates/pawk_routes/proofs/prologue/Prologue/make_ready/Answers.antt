use Rattle.std.proofs.Common.{ap}
use Rattle.pawk_store.specs.Globals.{Globals}
use Rattle.pawk_store.specs.LeftViews.{left_view}
use Rattle.pawk_store.specs.Records.{End}
use Rattle.pawk_routes.proofs.prologue.Prologue.make_ready.Goals as goal

pub returns-clause-taken : goal.returns-clause-taken
returns-clause-taken c = ap (λ (x : End Globals). record x { left = left_view c.args.self.now.left }) c.in_ok-found.ensures.taken
