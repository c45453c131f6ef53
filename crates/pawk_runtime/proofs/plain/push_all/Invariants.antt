use Rattle.std.proofs.Common.{◌≡◌, ◌≤◌, ℕ, List, [], drop, length}
use Rattle.pawk_value.specs.Value.{Val}
use Rattle.pawk_code.specs.Expressions.{exprs}
use Rattle.pawk_code.specs.ExpressionViews.{views}
use Rattle.pawk_store.specs.Builtins.{joined_by}
use Rattle.pawk_store.specs.Parts.{Hold, Part}
use Rattle.pawk_store.specs.Meaning.{texts_of}
use Rattle.pawk_runtime.specs.Moments.{moment}
use Rattle.pawk_runtime.proofs.plain.push_all.Given as goal

-- the texts so far, with the separator between them, and the expressions that are left
abbrev pub invariant-loop-number : goal.invariant-loop-number
invariant-loop-number g l =
    let m = moment (g.W.World.state l.world) l.fn.run in
    (moment (g.W.World.state l.world) l.run ≡ m) × (l.run.left ≤ l.fn.run.left)
    × ((texts : List (List ℕ)) × (length texts ≡ l.number) × (l.out.items ≡ joined_by l.ofs texts)
    × ((eres : List (List ℕ)) (enter : ℕ → List Hold → Part g.W.World.State Val) →
    texts_of g.W.World.calls eres enter (exprs (views (drop l.number l.es))) texts m ≡ texts_of g.W.World.calls eres enter (exprs (views l.es)) [] m))
