use Rattle.std.proofs.Common.{arith}
use Rattle.std.proofs.lemmas.Result.{err_from_is_err_and}
use Rattle.pawk_ere_syntax.proofs.Causes.{well_start, well_step, cause_token, cause_step, cause_open, cause_nothing}
use Rattle.pawk_ere_syntax.proofs.Refused.{form_map, not_empty, no_length, is_empty_of}
use Rattle.pawk_ere_syntax.proofs.Shapes.{looked_start, looked_step, looked_stuck, looked_no_token, looked_open, looked_nothing, looked_whole}
use Rattle.pawk_ere_syntax.proofs.shape.check.Goals as goal

pub loop-rest-init : goal.loop-rest-init
loop-rest-init c = record { within = omega arith; looked = looked_start c.args.text.now; well = well_start c.args.text.now }

pub returns-in_err-token-clause-refused : goal.returns-in_err-token-clause-refused
returns-in_err-token-clause-refused c =
    let p = err_from_is_err_and c.from_residual.result c.from_residual.ensures.1 in
    let more = not_empty c.loop-rest.rest.now c.is_empty.result c.is_empty.ensures c.loop-rest-test.true in
    rw (p.1, p.2) (form_map _ _ _ (looked_no_token _ _ _ c.loop-rest.invariant.looked (no_length c.args.text.now c.requires) more) c.in_err-token.ensures.value)

pub returns-in_err-shape-clause-refused : goal.returns-in_err-shape-clause-refused
returns-in_err-shape-clause-refused c =
    let p = err_from_is_err_and c.from_residual-in_err-shape.result c.from_residual-in_err-shape.ensures.1 in
    rw (p.1, p.2) (form_map _ _ _ (looked_stuck _ _ _ _ _ c.loop-rest.invariant.looked (no_length c.args.text.now c.requires) c.in_ok-token.ensures.value) c.in_err-shape.ensures.value)

pub loop-rest-preserved : goal.loop-rest-preserved
loop-rest-preserved c = record {
  within = omega (arith, c.in_ok-token.ensures.shorter, c.in_ok-shape.ensures.grows);
  looked = looked_step _ _ _ _ _ _ c.loop-rest.invariant.looked c.in_ok-token.ensures.value c.in_ok-token.ensures.sound c.in_ok-shape.ensures.value;
  well = well_step _ _ _ _ _ _ c.loop-rest.invariant.well c.in_ok-token.ensures.value c.in_ok-shape.ensures.value;
}

pub returns-then-shape-ne0-clause-refused : goal.returns-then-shape-ne0-clause-refused
returns-then-shape-ne0-clause-refused c =
    let ended = is_empty_of c.loop-rest.rest.now c.is_empty.result c.is_empty.ensures c.loop-rest-test.false in
    looked_open _ _ _ c.loop-rest.invariant.looked (no_length c.args.text.now c.requires) ended c.if-shape-ne0.true

pub returns-in-Nothing-clause-refused : goal.returns-in-Nothing-clause-refused
returns-in-Nothing-clause-refused c =
    let ended = is_empty_of c.loop-rest.rest.now c.is_empty.result c.is_empty.ensures c.loop-rest-test.false in
    looked_nothing _ _ _ c.loop-rest.invariant.looked (no_length c.args.text.now c.requires) ended c.in-Nothing.is

pub returns-in_default : goal.returns-in_default
returns-in_default c =
    let ended = is_empty_of c.loop-rest.rest.now c.is_empty.result c.is_empty.ensures c.loop-rest-test.false in
    record { form = looked_whole _ _ _ c.loop-rest.invariant.looked ended c.if-shape-ne0.false c.in_default.not-Nothing; refused = tt; cause = tt }

pub returns-in_err-token-clause-cause : goal.returns-in_err-token-clause-cause
returns-in_err-token-clause-cause c =
    let p = err_from_is_err_and c.from_residual.result c.from_residual.ensures.1 in
    let more = not_empty c.loop-rest.rest.now c.is_empty.result c.is_empty.ensures c.loop-rest-test.true in
    rw (p.1, p.2) (cause_token _ _ _ _ c.loop-rest.invariant.well more c.in_err-token.ensures.stops)

pub returns-in_err-shape-clause-cause : goal.returns-in_err-shape-clause-cause
returns-in_err-shape-clause-cause c =
    let p = err_from_is_err_and c.from_residual-in_err-shape.result c.from_residual-in_err-shape.ensures.1 in
    rw (p.1, p.2) (cause_step _ _ _ _ _ _ c.loop-rest.invariant.well c.in_ok-token.ensures.value c.in_err-shape.ensures.stops)

pub returns-then-shape-ne0-clause-cause : goal.returns-then-shape-ne0-clause-cause
returns-then-shape-ne0-clause-cause c =
    let ended = is_empty_of c.loop-rest.rest.now c.is_empty.result c.is_empty.ensures c.loop-rest-test.false in
    cause_open _ _ _ c.loop-rest.invariant.well ended c.if-shape-ne0.true

pub returns-in-Nothing-clause-cause : goal.returns-in-Nothing-clause-cause
returns-in-Nothing-clause-cause c =
    let ended = is_empty_of c.loop-rest.rest.now c.is_empty.result c.is_empty.ensures c.loop-rest-test.false in
    cause_nothing _ _ _ c.loop-rest.invariant.well ended c.if-shape-ne0.false c.in-Nothing.is
