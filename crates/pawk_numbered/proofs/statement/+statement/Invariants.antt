use Rattle.std.proofs.Common.{◌≡◌, drop}
use Rattle.pawk_code.specs.StatementViews.{seen}
use Rattle.pawk_numbered.specs.Mentions.{in_body}
use Rattle.pawk_numbered.proofs.statement.+statement.Given as goal

abbrev pub invariant-in_body-loop-x : goal.invariant-in_body-loop-x
invariant-in_body-loop-x l = in_body (seen (drop l.x-index l.statements)) ≡ in_body (seen l.statements)
