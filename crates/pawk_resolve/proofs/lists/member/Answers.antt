use Rattle.std.proofs.Common.{ap}
use Rattle.pawk_code.specs.Expressions.{test}
use Rattle.pawk_code.proofs.Rows.{view-In}
use Rattle.pawk_resolve.proofs.lists.member.Goals as goal

pub returns : goal.returns
returns c = ap test (view-In c.args.array c.args.keys)
