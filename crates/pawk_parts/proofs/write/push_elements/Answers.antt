use Rattle.std.proofs.Common.{length, arith}
use Rattle.std.proofs.lemmas.List.{take_all}
use Rattle.std.proofs.lemmas.Result.{err_from_is_err_and}
use Rattle.pawk_keyed_map.specs.Keys.{text_of}
use Rattle.pawk_frozen.specs.MarkViews.{mark_view}
use Rattle.pawk_parts.proofs.ArrayLemmas.{no_element, WritesElement, one_element, all_elements}
use Rattle.pawk_parts.proofs.LineLemmas.{kept-kept}
use Rattle.pawk_parts.proofs.MarkLemmas.{fewer_left, first_unsaid, later_unsaid}
use Rattle.pawk_parts.proofs.RefusalLemmas.{on_damage_weaker}
use Rattle.pawk_parts.proofs.write.push_elements.Goals as goal

pub loop-key-init : goal.loop-key-init
loop-key-init c =
    let old = c.args.out.now.items in
    record {
      written = λ n slot all array within h. no_element old n slot all c.args.pairs h;
      unsaid = λ h. h;
      kept = take_all (length old) old (omega arith);
    }

pub loop-key-smaller : goal.loop-key-smaller
loop-key-smaller c =
    fewer_left (text_of c.in-Some.key.now) (mark_view c.in-Some.mark.now) c.loop-key.pairs c.next.new.self c.in-Some.ensures.0 c.in-Some.ensures.1

pub loop-key-preserved : goal.loop-key-preserved
loop-key-preserved c =
    let k = text_of c.in-Some.key.now in
    let m = mark_view c.in-Some.mark.now in
    let old = c.args.out.now.items in
    let now = c.loop-key.out.items in
    let new = c.push_element.new.out.items in
    let element : WritesElement now new k m = rw c.text.ensures at c.in_ok-push_element.ensures.written in
    record {
      written = λ n slot all array within h.
          one_element old now new n n slot all c.loop-key.pairs c.next.new.self k m array within c.in-Some.ensures.0 c.in-Some.ensures.1 (c.loop-key.invariant.written n slot all array within h) element;
      unsaid = λ h. c.loop-key.invariant.unsaid (later_unsaid k m c.loop-key.pairs c.next.new.self c.in-Some.ensures.0 c.in-Some.ensures.1 h);
      kept = kept-kept old now new c.loop-key.invariant.kept c.in_ok-push_element.ensures.kept;
    }

pub returns-clause-written : goal.returns-clause-written
returns-clause-written c n slot all array within h =
    all_elements c.args.out.now.items c.loop-key.out.items n n slot all c.loop-key.pairs c.in_default.ensures.0 (c.loop-key.invariant.written n slot all array within h)

pub returns-in_err-push_element-clause-damage : goal.returns-in_err-push_element-clause-damage
returns-in_err-push_element-clause-damage c =
    let p = err_from_is_err_and c.from_residual.result c.from_residual.ensures.1 in
    rw (p.1, p.2)
    (on_damage_weaker c.in_err-push_element.field-0.0
    (λ h. c.loop-key.invariant.unsaid (first_unsaid (text_of c.in-Some.key.now) (mark_view c.in-Some.mark.now) c.loop-key.pairs c.next.new.self c.in-Some.ensures.0 h))
    c.in_err-push_element.ensures.damage)
