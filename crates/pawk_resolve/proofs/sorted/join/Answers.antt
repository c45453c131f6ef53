use Rattle.pawk_resolve.proofs.Joins.{join-Join}
use Rattle.pawk_resolve.proofs.sorted.join.Goals as goal

pub returns : goal.returns
returns c = join-Join c.args.a c.args.b c.in_ok-parts.parts c.push.new.self c.in_ok-parts.ensures c.in_ok-push.ensures.items
