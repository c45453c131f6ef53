use Rattle.std.proofs.Common.{ap}
use Rattle.pawk_code.specs.Expressions.{textual}
use Rattle.pawk_code.proofs.Rows.{view-Format}
use Rattle.pawk_resolve.proofs.lists.formatted.Goals as goal

pub returns : goal.returns
returns c = ap textual (view-Format c.args.format c.args.values)
