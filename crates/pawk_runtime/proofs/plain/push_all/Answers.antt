use Rattle.std.proofs.Common.{◌≡◌, ◌+◌, ◌∙◌, ◌++◌, ◌∷◌, ℕ, List, [], true, drop, length, ap, sym, arith, append_assoc}
use Rattle.std.proofs.lemmas.List.{length-append}
use Rattle.pawk_value.specs.Value.{Val}
use Rattle.pawk_code.specs.Expressions.{exprs}
use Rattle.pawk_code.specs.ExpressionViews.{views}
use Rattle.pawk_store.specs.Builtins.{joined_by}
use Rattle.pawk_store.specs.Parts.{Hold, Moment, Part}
use Rattle.pawk_store.specs.Meaning.{texts_of}
use Rattle.pawk_runtime.specs.Plain.{between}
use Rattle.pawk_runtime.proofs.Pushing.{joined_more, texts_next}
use Rattle.pawk_runtime.proofs.plain.push_all.Goals as goal

pub loop-number-preserved : goal.loop-number-preserved
loop-number-preserved g c =
    let before = c.loop-number.invariant in
    let texts = before.2.0 in
    let calls = g.W.World.calls in
    let es = c.args.es.now in
    let n = c.loop-number.number in
    let ofs = c.scalar_text-ofs.result.now in
    let there : c.in_ok-pushed.pushed ≡ true = cc in
    let next = c.in_ok-pushed.ensures.text there in
    let t = next.0 in
    let line = next.1 ∙ ap (λ x. x ++ t) c.in_ok-push_between.ensures ∙ append_assoc c.loop-number.out.items (between n ofs) t
    ∙ ap (λ x. x ++ (between n ofs ++ t)) before.2.2 ∙ ap (λ k. joined_by ofs texts ++ (between k ofs ++ t)) (sym before.2.1) ∙ sym (joined_more ofs texts t) in
    let count : length (texts ++ t ∷ []) ≡ n + 1 = length-append texts (t ∷ []) ∙ ap (λ k. k + 1) before.2.1 in
    let rest = λ (eres : List (List ℕ)) (enter : ℕ → List Hold → Part g.W.World.State Val).
    sym (ap (λ (k : Moment g.W.World.State). texts_of calls eres enter (exprs (views (drop (n + 1) es))) (texts ++ t ∷ []) k) before.0)
    ∙ sym (texts_next calls eres enter es n c.index-es-number.result texts t _ c.loop-number-test.true c.index-es-number.is (next.2 eres enter))
    ∙ ap (λ (k : Moment g.W.World.State). texts_of calls eres enter (exprs (views (drop n es))) texts k) before.0
    ∙ before.2.3 eres enter in
    (c.in_ok-pushed.ensures.same ∙ before.0, omega (arith, c.in_ok-pushed.ensures.left, before.1), (texts ++ t ∷ [], count, line, rest))
