use Rattle.pawk_code.proofs.Rows.{view-Call}
use Rattle.pawk_resolve.proofs.lists.call.Goals as goal

pub returns : goal.returns
returns c = view-Call c.args.slot c.args.arguments
