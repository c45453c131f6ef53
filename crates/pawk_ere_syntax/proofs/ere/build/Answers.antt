use Rattle.std.proofs.Common.{◌≡◌, ℕ, ◌≤◌, List, [], Option, None, Result, Ok, Err, IfOk, IfErr, sym, ◌∙◌, subst}
use Rattle.std.proofs.lemmas.Result.{err_from_is_err_and}
use Rattle.pawk_ere_syntax.specs.declared.expression.Expression.{Expression}
use Rattle.pawk_ere_syntax.specs.declared.refusal.EreRefusal.{EreRefusal}
use Rattle.pawk_ere_syntax.specs.Machine.{Builder, finish, weight}
use Rattle.pawk_ere_syntax.specs.Pattern.{Pattern}
use Rattle.pawk_ere_syntax.specs.Refusals.{Gives, Tells, IfTooLarge}
use Rattle.pawk_ere_syntax.specs.Tokens.{SpellsEre, IsTooLarge}
use Rattle.pawk_ere_syntax.specs.Tree.{pattern_of}
use Rattle.pawk_ere_syntax.proofs.Causes.{memory_only, memory_at_end}
use Rattle.pawk_ere_syntax.proofs.Progress.{Progress, formed_token, formed_step, formed_end, progress_step, no_token, no_step, none_at_end, too_large, spells_at_end, is_too_large}
use Rattle.pawk_ere_syntax.proofs.Refused.{tells_form, form_only, not_empty, no_length, is_empty_of}
use Rattle.pawk_ere_syntax.proofs.Weights.{weight_step}
use Rattle.pawk_ere_syntax.proofs.ere.build.Goals as goal

pub returns-in_err-next-clause-refused : goal.returns-in_err-next-clause-refused
returns-in_err-next-clause-refused c =
    let p = err_from_is_err_and c.from_residual.result c.from_residual.ensures.1 in
    let more = not_empty c.loop-rest.rest.now c.is_empty.result c.is_empty.ensures c.loop-rest-test.true in
    rw (p.1, p.2) (tells_form _ _ _ (no_token _ _ _ c.loop-rest.invariant.progress (no_length c.args.text.now c.requires.nonempty) more) c.in_err-next.ensures.value)

pub returns-in_err-builder-clause-refused : goal.returns-in_err-builder-clause-refused
returns-in_err-builder-clause-refused c =
    let p = err_from_is_err_and c.from_residual-in_err-builder.result c.from_residual-in_err-builder.ensures.1 in
    rw (p.1, p.2) (tells_form _ _ _ (no_step _ _ _ _ _ c.loop-rest.invariant.progress (no_length c.args.text.now c.requires.nonempty) c.in_ok-next.ensures.value) c.in_err-builder.ensures)

pub returns-in-None-clause-refused : goal.returns-in-None-clause-refused
returns-in-None-clause-refused c = too_large _ _ _ _ _ c.loop-rest.invariant.progress (no_length c.args.text.now c.requires.nonempty) c.in_ok-next.ensures.value c.in-None.ensures

pub loop-rest-preserved : goal.loop-rest-preserved
loop-rest-preserved c =
    let larger = weight_step _ _ _ c.in_ok-builder.ensures in
    record {
      progress = progress_step _ _ _ _ _ _ c.loop-rest.invariant.progress c.in_ok-next.ensures.value c.in_ok-next.ensures.sound c.in_ok-builder.ensures;
      sized = c.in-Some.ensures.0 ∙ sym larger;
      small = c.in-Some.ensures.1;
    }

found : (r : Result Expression EreRefusal) (bytes rest : List ℕ) (st : Builder) → Gives pattern_of r (finish st) → Progress bytes rest st → rest ≡ [] → weight st ≤ 4096 → IfOk r (λ e. SpellsEre bytes (pattern_of e))
found (Ok e) bytes rest st g p over small = spells_at_end bytes rest st (pattern_of e) p over g small
found (Err why) bytes rest st g p over small = tt

refused : (r : Result Expression EreRefusal) (bytes rest : List ℕ) (st : Builder) → Gives pattern_of r (finish st) → Progress bytes rest st → (bytes ≡ [] → ⊥) → rest ≡ [] → IfErr r (λ why. Tells why ((e : Pattern) → SpellsEre bytes e → ⊥))
refused (Ok e) bytes rest st g p nonempty over = tt
refused (Err why) bytes rest st g p nonempty over = tells_form why _ _ (none_at_end bytes rest st p nonempty over) g

pub returns-clause-found : goal.returns-clause-found
returns-clause-found c =
    let ended = is_empty_of c.loop-rest.rest.now c.is_empty.result c.is_empty.ensures c.loop-rest-test.false in
    found _ _ _ _ c.finish.ensures c.loop-rest.invariant.progress ended (subst (λ k. k ≤ 4096) c.loop-rest.invariant.sized c.loop-rest.invariant.small)

pub returns-clause-refused : goal.returns-clause-refused
returns-clause-refused c =
    let ended = is_empty_of c.loop-rest.rest.now c.is_empty.result c.is_empty.ensures c.loop-rest-test.false in
    refused _ _ _ _ c.finish.ensures c.loop-rest.invariant.progress (no_length c.args.text.now c.requires.nonempty) ended

pub returns-in_err-next-clause-too_large : goal.returns-in_err-next-clause-too_large
returns-in_err-next-clause-too_large c =
    let p = err_from_is_err_and c.from_residual.result c.from_residual.ensures.1 in
    let more = not_empty c.loop-rest.rest.now c.is_empty.result c.is_empty.ensures c.loop-rest-test.true in
    rw (p.1, p.2) (form_only _ _ (IsTooLarge c.args.text.now) _ (no_token _ _ _ c.loop-rest.invariant.progress (no_length c.args.text.now c.requires.nonempty) more) c.in_err-next.ensures.value)

pub returns-in_err-builder-clause-too_large : goal.returns-in_err-builder-clause-too_large
returns-in_err-builder-clause-too_large c =
    let p = err_from_is_err_and c.from_residual-in_err-builder.result c.from_residual-in_err-builder.ensures.1 in
    rw (p.1, p.2) (form_only _ _ (IsTooLarge c.args.text.now) _ (no_step _ _ _ _ _ c.loop-rest.invariant.progress (no_length c.args.text.now c.requires.nonempty) c.in_ok-next.ensures.value) c.in_err-builder.ensures)

pub returns-in-None-clause-too_large : goal.returns-in-None-clause-too_large
returns-in-None-clause-too_large c = is_too_large _ _ _ _ _ c.loop-rest.invariant.progress c.in_ok-next.ensures.value c.in-None.ensures c.requires.form

too_large' : (r : Result Expression EreRefusal) (o : Option Pattern) (Q : Type 0) → Gives pattern_of r o → IfErr r (λ why. IfTooLarge why Q)
too_large' (Ok e) o Q g = tt
too_large' (Err why) o Q g = form_only why (o ≡ None) Q (o ≡ None) (λ x. x) g

pub returns-clause-too_large : goal.returns-clause-too_large
returns-clause-too_large c = too_large' _ _ _ c.finish.ensures

pub returns-in_err-next-clause-cause : goal.returns-in_err-next-clause-cause
returns-in_err-next-clause-cause c =
    let p = err_from_is_err_and c.from_residual.result c.from_residual.ensures.1 in
    let more = not_empty c.loop-rest.rest.now c.is_empty.result c.is_empty.ensures c.loop-rest-test.true in
    rw (p.1, p.2) (memory_only _ _ c.args.text.now (formed_token _ _ _ c.loop-rest.invariant.progress c.requires.form more) c.in_err-next.ensures.value)

pub returns-in_err-builder-clause-cause : goal.returns-in_err-builder-clause-cause
returns-in_err-builder-clause-cause c =
    let p = err_from_is_err_and c.from_residual-in_err-builder.result c.from_residual-in_err-builder.ensures.1 in
    rw (p.1, p.2) (memory_only _ _ c.args.text.now (formed_step _ _ _ _ _ c.loop-rest.invariant.progress c.requires.form c.in_ok-next.ensures.value) c.in_err-builder.ensures)

pub returns-in-None-clause-cause : goal.returns-in-None-clause-cause
returns-in-None-clause-cause c = is_too_large _ _ _ _ _ c.loop-rest.invariant.progress c.in_ok-next.ensures.value c.in-None.ensures c.requires.form

pub returns-clause-cause : goal.returns-clause-cause
returns-clause-cause c =
    let ended = is_empty_of c.loop-rest.rest.now c.is_empty.result c.is_empty.ensures c.loop-rest-test.false in
    memory_at_end _ _ c.args.text.now (formed_end _ _ _ c.loop-rest.invariant.progress c.requires.form ended) c.finish.ensures
