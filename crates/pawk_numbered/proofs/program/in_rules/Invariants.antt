use Rattle.std.proofs.Common.{◌≡◌, map, drop}
use Rattle.pawk_code.specs.ProgramViews.{rule_view}
use Rattle.pawk_numbered.specs.Mentions.{in_rules}
use Rattle.pawk_numbered.proofs.program.in_rules.Given as goal

abbrev pub invariant-loop-rule : goal.invariant-loop-rule
invariant-loop-rule l = in_rules (map rule_view (drop l.rule-index l.rules)) ≡ in_rules (map rule_view l.rules)
