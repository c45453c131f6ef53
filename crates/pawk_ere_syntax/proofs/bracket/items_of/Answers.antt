use Rattle.std.proofs.Common.{true, arith, subst, sym}
use Rattle.std.proofs.lemmas.Result.{err_from_is_err_and}
use Rattle.pawk_ere_syntax.specs.Sets.{none}
use Rattle.pawk_ere_syntax.proofs.Causes.{same_cause_start, same_cause_more, stops_items, ends_items}
use Rattle.pawk_ere_syntax.proofs.Items.{Same, same_start, same_more, same_over, same_refused, same_ended}
use Rattle.pawk_ere_syntax.proofs.Refused.{is_empty_of}
use Rattle.pawk_ere_syntax.proofs.bracket.items_of.Goals as goal

pub loop-rest-init : goal.loop-rest-init
loop-rest-init c = record {
  shorter = omega arith;
  same = subst (λ m. Same c.args.text.now c.args.text.now m true none) (sym c.none-set.ensures) (same_start c.args.text.now none);
  cause = same_cause_start c.args.text.now;
}

pub loop-rest-preserved : goal.loop-rest-preserved
loop-rest-preserved c = record {
  shorter = omega (arith, c.in_ok-next.ensures.shorter);
  same = same_more _ _ _ _ _ _ _ _ c.loop-rest.invariant.same c.in_ok-next.ensures.shorter c.in-None.ensures.value c.in_ok-next.ensures.value c.insert_item.ensures;
  cause = same_cause_more _ _ _ _ _ c.loop-rest.invariant.cause c.in_ok-next.ensures.shorter c.in_ok-next.ensures.value;
}

pub returns-in-Some-clause-value : goal.returns-in-Some-clause-value
returns-in-Some-clause-value c = same_over _ _ _ _ _ _ c.loop-rest.invariant.same c.in-Some.ensures.shorter c.in-Some.ensures.value

pub returns-in_err-next-clause-value : goal.returns-in_err-next-clause-value
returns-in_err-next-clause-value c = λ n le.
    let p = err_from_is_err_and c.from_residual.result c.from_residual.ensures.1 in
    rw (p.1, p.2) (same_refused _ _ _ _ _ _ c.loop-rest.invariant.same c.in-None.ensures.value c.in_err-next.ensures.value n le)

pub returns-clause-value : goal.returns-clause-value
returns-clause-value c = same_ended _ _ _ _ _ c.loop-rest.invariant.same (is_empty_of c.loop-rest.rest.now c.is_empty.result c.is_empty.ensures c.loop-rest-test.false)

pub returns-in_err-next-clause-stops : goal.returns-in_err-next-clause-stops
returns-in_err-next-clause-stops c = λ n le.
    let p = err_from_is_err_and c.from_residual.result c.from_residual.ensures.1 in
    rw (p.1, p.2) (stops_items _ _ _ _ _ _ c.loop-rest.invariant.same c.loop-rest.invariant.cause c.in-None.ensures.value c.in_err-next.ensures.stops n le)

pub returns-clause-stops : goal.returns-clause-stops
returns-clause-stops c = ends_items _ _ _ _ _ c.loop-rest.invariant.same c.loop-rest.invariant.cause (is_empty_of c.loop-rest.rest.now c.is_empty.result c.is_empty.ensures c.loop-rest-test.false)
