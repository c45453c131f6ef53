use Rattle.std.proofs.Common.{◌≡◌, ◌≤◌, ◌-◌, drop, length}
use Rattle.pawk_code.specs.StatementViews.{seen}
use Rattle.pawk_store.specs.Meaning.{execs}
use Rattle.pawk_runtime.specs.Moments.{moment}
use Rattle.pawk_eval.specs.Contexts.{eres_in, enter_in}
use Rattle.pawk_eval.proofs.statements.run_body.Given as goal

-- the statements that are left do what all of them do
abbrev pub invariant-loop-next : goal.invariant-loop-next
invariant-loop-next g l =
    let eres = eres_in l.layer in
    let enter = enter_in g.W.World.calls l.layer in
    (execs g.W.World.calls eres enter (seen (drop l.next l.body)) (moment (g.W.World.state l.world) l.run) ≡ execs g.W.World.calls eres enter (seen l.body) (moment (g.W.World.state l.fn.world) l.fn.run)) × (l.run.left ≤ l.fn.run.left)

abbrev pub decreases-loop-next : goal.decreases-loop-next
decreases-loop-next g l = length l.body - l.next
