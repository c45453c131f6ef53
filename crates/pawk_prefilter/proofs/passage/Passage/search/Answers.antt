use Rattle.std.proofs.Common.{◌≡◌, ◌∙◌, refl, sym, ap, subst, List, ℕ, Some, None, IfSome, Result, Ok, Err, OnOk, Vec, Global}
use Rattle.std.specs.Option.{option_map}
use Rattle.std.specs.declared.alloc.AllocError.{AllocError}
use Rattle.pawk_store.specs.Runs.{records_from}
use Rattle.pawk_prefilter.specs.Needs.{moved_on, any_resets}
use Rattle.pawk_store.specs.StateViews.{state_of}
use Rattle.pawk_prefilter.specs.Passages.{AreNeeded, Known, end_with}
use Rattle.pawk_prefilter.proofs.PassageLemmas.{passed_alike}
use Rattle.pawk_prefilter.proofs.passage.Passage.search.Goals as goal

on_ok : {A B : Type 0} (r : Result (Unit {0}) AllocError) → (A → B) → OnOk r A → OnOk r B
on_ok (Ok done) go h = go h
on_ok (Err why) go h = tt

pub returns-clause-passed : goal.returns-clause-passed
returns-clause-passed g c = on_ok c.move_on.result
    (λ moved code is budget output left.
    let calls = g.W.World.calls in
    let new = c.pass_over-passed.new.self in
    let e = end_with (g.W.World.state c.args.world.now) output left c.args.state.now in
    let n = c.pass_over-passed.result in
    let resets : c.self-2.inside.resets ≡ any_resets code.rules = ap (λ (k : Known). k.resets) (c.self-2.view_is ∙ c.weigh.ensures) ∙ is.sets in
    let words : c.args.self.now.words ≡ Some c.as_slice.result.now = sym (ap (λ (k : Known). k.words) c.self.view_is) ∙ ap (option_map (λ (v : Vec (List ℕ) Global). v.items)) c.in-Some.is ∙ ap Some (sym c.as_slice.ensures.value) in
    ap (λ s. records_from calls code.expressions code budget None (record e { state = s }) new) (moved ∙ ap (λ r. moved_on r n (state_of c.args.state.now)) resets)
    ∙ passed_alike calls code budget c.as_slice.result.now e c.args.records.now new n (subst (λ o. IfSome o (AreNeeded code.expressions code.rules)) words is.needed) (c.if-not-may_pass.ensures.separator refl) (c.if-not-may_pass.ensures.outside refl) c.pass_over-passed.ensures)
    c.move_on.ensures
