use Rattle.std.proofs.Common.{◌≡◌, ◌++◌, drop}
use Rattle.pawk_syntax_tree.specs.Item.{seen as statements_seen}
use Rattle.pawk_syntax_check.specs.Mentions.{of_body}
use Rattle.pawk_syntax_check.specs.Views.{seen}
use Rattle.pawk_syntax_check.proofs.statement.+statement.Given as goal

abbrev pub invariant-body-loop-x : goal.invariant-body-loop-x
invariant-body-loop-x l =
    seen l.mentions ++ of_body l.in_loop (statements_seen (drop l.x-index l.statements))
    ≡ seen l.fn.mentions ++ of_body l.in_loop (statements_seen l.statements)
