use Rattle.std.proofs.Common.{◌≡◌, ◌≤◌, ◌+◌, ◌++◌, ℕ, List, drop, length, ap, sym, ◌∙◌, append_assoc, arith}
use Rattle.std.proofs.lemmas.List.{length-append}
use Rattle.pawk_value.specs.Limits.{length_limit}
use Rattle.pawk_value.specs.Value.{Val}
use Rattle.pawk_code.specs.Expressions.{exprs}
use Rattle.pawk_code.specs.ExpressionViews.{views}
use Rattle.pawk_store.specs.Meaning.{suffixed}
use Rattle.pawk_store.specs.Parts.{Hold, Part}
use Rattle.pawk_runtime.specs.Moments.{moment}
use Rattle.pawk_runtime.proofs.Appending.{suffixed_next}
use Rattle.pawk_runtime.proofs.append.push_after.Goals as goal

pub loop-e-preserved : goal.loop-e-preserved
loop-e-preserved g c =
    let before = c.loop-e.invariant in
    let out = c.loop-e.out.items in
    let es = c.args.es.now in
    let i = c.loop-e.e-index in
    let m = moment (g.W.World.state c.args.world.now) c.args.run.now in
    let now = moment (g.W.World.state c.args.world.now) c.loop-e.run in
    let next = c.in_ok-pushed.ensures.text c.if-not-pushed.false in
    let t = next.0 in
    let whole = c.fits.ensures c.if-not-fits.false in
    let rest = λ (text : List ℕ) (is : length text ≡ c.args.front) (eres : List (List ℕ)) (enter : ℕ → List Hold → Part g.W.World.State Val).
    let at = suffixed g.W.World.calls eres enter in
    let short : length (text ++ out) + length t ≤ length_limit =
    omega (arith, whole, c.len.ensures, ap length next.1, length-append out t, length-append text out, is) in
    before.2 text is eres enter
    ∙ ap (λ k. at (exprs (views (drop i es))) (text ++ out) k) (sym before.0)
    ∙ suffixed_next g.W.World.calls eres enter es i c.e-item.result (text ++ out) t now c.loop-e-test.true c.e-item.is (next.2 eres enter) short
    ∙ ap (λ k. at (exprs (views (drop (i + 1) es))) ((text ++ out) ++ t) k) before.0
    ∙ ap (λ x. at (exprs (views (drop (i + 1) es))) x m) (append_assoc text out t ∙ ap (λ x. text ++ x) (sym next.1)) in
    (c.in_ok-pushed.ensures.same ∙ before.0, omega (arith, c.in_ok-pushed.ensures.left, before.1), rest)
