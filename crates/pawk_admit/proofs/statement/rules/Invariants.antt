use Rattle.std.proofs.Common.{◌≡◌, ◌++◌, map, drop}
use Rattle.pawk_code.specs.ProgramViews.{rule_view}
use Rattle.pawk_admit.specs.Occurrences.{of_rules}
use Rattle.pawk_admit.proofs.statement.rules.Given as goal

abbrev pub invariant-loop-rule : goal.invariant-loop-rule
invariant-loop-rule l =
    l.list.items ++ of_rules (map rule_view (drop l.rule-index l.rules)) ≡ l.fn.list.items ++ of_rules (map rule_view l.rules)
