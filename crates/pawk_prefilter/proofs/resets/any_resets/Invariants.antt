use Rattle.std.proofs.Common.{◌≡◌, map, drop}
use Rattle.pawk_code.specs.ProgramViews.{rule_view}
use Rattle.pawk_prefilter.specs.Needs as spec
use Rattle.pawk_prefilter.proofs.resets.any_resets.Given as goal

-- the rules that are left decide
abbrev pub invariant-loop-rule : goal.invariant-loop-rule
invariant-loop-rule l = spec.any_resets (map rule_view (drop l.rule-index l.rules)) ≡ spec.any_resets (map rule_view l.fn.rules)
