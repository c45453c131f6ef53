use Rattle.std.proofs.Common.{◌≡◌, drop, map}
use Rattle.pawk_code.specs.ProgramViews.{body_view}
use Rattle.pawk_eval.specs.Contexts.{eres_of, functions_of}
use Rattle.pawk_runtime.specs.Moments.{moment}
use Rattle.pawk_store.specs.Records.{actions}
use Rattle.pawk_sequential.proofs.rules.do_actions.Given as goal

-- the actions that are left do what all of them do
abbrev pub invariant-loop-body : goal.invariant-loop-body
invariant-loop-body g l =
    actions g.W.World.calls (eres_of l.context) (functions_of l.context) (map body_view (drop l.body-index l.bodies)) (moment (g.W.World.state l.world) l.run)
    ≡ actions g.W.World.calls (eres_of l.context) (functions_of l.context) (map body_view l.bodies) (moment (g.W.World.state l.fn.world) l.fn.run)
