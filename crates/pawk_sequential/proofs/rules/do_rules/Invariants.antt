use Rattle.std.proofs.Common.{◌≡◌, drop, map}
use Rattle.pawk_code.specs.ProgramViews.{rule_view}
use Rattle.pawk_eval.specs.Contexts.{eres_of, functions_of}
use Rattle.pawk_runtime.specs.Moments.{moment}
use Rattle.pawk_store.specs.Records.{rules_from}
use Rattle.pawk_sequential.proofs.rules.do_rules.Given as goal

-- the rules that are left do what all of them do
abbrev pub invariant-loop-number : goal.invariant-loop-number
invariant-loop-number g l =
    rules_from g.W.World.calls (eres_of l.context) (functions_of l.context) l.number (map rule_view (drop l.number l.rules)) (moment (g.W.World.state l.world) l.run)
    ≡ rules_from g.W.World.calls (eres_of l.context) (functions_of l.context) 0 (map rule_view l.rules) (moment (g.W.World.state l.fn.world) l.fn.run)
