use Rattle.std.proofs.Common.{ap}
use Rattle.pawk_code.specs.Expressions.{read}
use Rattle.pawk_code.proofs.Rows.{view-Element}
use Rattle.pawk_resolve.proofs.lists.element.Goals as goal

pub returns : goal.returns
returns c = ap read (view-Element c.args.array c.args.keys)
