use Rattle.std.proofs.Common.{ℕ, ◌<◌, get_or, map}
use Rattle.pawk_code.specs.Programs.{Rule}
use Rattle.pawk_code.specs.ProgramViews.{rule_view}
use Rattle.pawk_prefilter.specs.Needs.{IsIdleRule}
use Rattle.pawk_prefilter.specs.Passages.{texts_of}
use Rattle.pawk_prefilter.proofs.passage.words_of_rules.Given as goal

-- each rule so far needs one of the words so far
abbrev pub invariant-loop-rule : goal.invariant-loop-rule
invariant-loop-rule l = (k : ℕ) (d : Rule) → k < l.rule-index → IsIdleRule (texts_of l.expressions) l.all.items (get_or (map rule_view l.rules) k d)
