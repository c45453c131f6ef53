use Rattle.std.proofs.Common.{◌≡◌, ◌≤◌, ◌++◌, ℕ, List, drop, length}
use Rattle.pawk_value.specs.Value.{Val}
use Rattle.pawk_code.specs.Expressions.{exprs}
use Rattle.pawk_code.specs.ExpressionViews.{views}
use Rattle.pawk_store.specs.Meaning.{suffixed}
use Rattle.pawk_store.specs.Parts.{Hold, Part}
use Rattle.pawk_runtime.specs.Moments.{moment}
use Rattle.pawk_runtime.proofs.append.push_after.Given as goal

-- the texts so far after the first one, and the expressions that are left
abbrev pub invariant-loop-e : goal.invariant-loop-e
invariant-loop-e g l =
    let m = moment (g.W.World.state l.world) l.fn.run in
    (moment (g.W.World.state l.world) l.run ≡ m) × (l.run.left ≤ l.fn.run.left)
    × ((text : List ℕ) → length text ≡ l.front → (eres : List (List ℕ)) (enter : ℕ → List Hold → Part g.W.World.State Val) →
    suffixed g.W.World.calls eres enter (exprs (views l.es)) text m ≡ suffixed g.W.World.calls eres enter (exprs (views (drop l.e-index l.es))) (text ++ l.out.items) m)
