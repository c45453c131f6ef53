use Rattle.std.proofs.Common.{◌≡◌, ◌+◌, ◌-◌, ◌<◌, ◌≤◌, ◌∙◌, List, ℕ, suc, [], ◌∷◌, drop, drop-cons, length, Result, Ok, Err, Some, rules, arith, ap, sym, refl, Vec, Global, add-one}
use Rattle.std.proofs.lemmas.Grind.{common_steps}
use Rattle.pawk_value.specs.declared.faults.Fault.{Fault}
use Rattle.pawk_world.specs.Halts.{Halt, halt_of, fault}
use Rattle.pawk_store.specs.StateViews.{state_of}
use Rattle.pawk_code.specs.Expressions.{exprs, arguments}
use Rattle.pawk_code.specs.ExpressionViews.{view, views, argument_view, argument_views, format_view, numeric_view, place_view, test_view, textual_view}
use Rattle.pawk_code.specs.StatementViews.{seen, simple_view, stmt_view}
use Rattle.pawk_code.specs.ProgramViews.{function_view}
use Rattle.pawk_store.specs.Builtins.{within_limit}
use Rattle.pawk_store.specs.Parts.{gives, halts, then_do, Entry, entry_of, settle}
use Rattle.pawk_store.specs.Meaning.{eval, execs, texts_of, values_of, arguments_of, suffixed, joined_texts, while_loop, visit_keys, for_keys, test_or_true, act_or_none}
use Rattle.pawk_store.specs.Places.{variable_aim}
use Rattle.pawk_runtime.specs.declared.run.Parameter.{Parameter}
use Rattle.pawk_runtime.specs.Moments.{holds_of, moment}
use Rattle.pawk_eval.specs.Contexts.{functions_of, eres_in, enter_in, last_view}
use Rattle.pawk_eval.specs.Contexts as contexts
use Rattle.pawk_eval.proofs.AppendedText.{operand_next, operand_halts, text_after}
use Rattle.pawk_eval.proofs.Bodies.{simple_next}
use Rattle.pawk_eval.proofs.Calls.{call_no_step, call_too_deep, call_nothing, call_runs}
use Rattle.pawk_eval.proofs.Rows.{expr_in_row, argument_in_row, statement_in_body, keys_left, text_in_row_halts, value_in_row_halts, argument_in_row_halts, value_argument_halts}
use Rattle.pawk_runtime.proofs.ElementShapes.{element_shape}
use Rattle.pawk_eval.proofs.Shapes.{call_shape, member_shape, join_shape, format_shape, simple_shape, if_shape, choose_shape, do_shape}
use Rattle.pawk_eval.proofs.Turns.{turn_is, turn_no_step}
use Rattle.pawk_eval.proofs.Weights.{rank, rank_falls, weight, numeric_weight, row_weight, place_weight, test_weight, textual_weight, format_weight, argument_weight, arguments_weight, simple_weight, statement_weight, body_weight, body_in_list}
use Rattle.pawk_eval.proofs.+evaluate.Goals as goal
use Rattle.pawk_eval.proofs.+evaluate.Goals.{loops::turns-in-None, loops::turns-in-Some+in_ok-truth-in-Some}

-- ---- nodes with rows

pub expressions::eval-lay_call-requires : goal.expressions::eval-lay_call-requires
expressions::eval-lay_call-requires g t c =
    let is = call_shape c.args.e.now c.in-Call.f c.in-Call.arguments c.deref-in-Call.result.now c.in-Call.is c.deref-in-Call.ensures.value in
    let falls : arguments_weight (arguments (argument_views c.deref-in-Call.result.now)) + 2 < weight (view c.args.e.now) = rw is (omega arith) in
    search rules

pub expressions::eval-returns-in-Call-clause-outcome : goal.expressions::eval-returns-in-Call-clause-outcome
expressions::eval-returns-in-Call-clause-outcome g t c =
    let is = call_shape c.args.e.now c.in-Call.f c.in-Call.arguments c.deref-in-Call.result.now c.in-Call.is c.deref-in-Call.ensures.value in
    rw is c.lay_call.ensures.outcome

pub expressions::number_beside-invoke-requires : goal.expressions::number_beside-invoke-requires
expressions::number_beside-invoke-requires g t c =
    let is = call_shape c.args.e.now c.in-Call.f c.in-Call.arguments c.deref.result.now c.in-Call.is c.deref.ensures.value in
    let falls : arguments_weight (arguments (argument_views c.deref.result.now)) + 1 < weight (view c.args.e.now) + 1 = rw is (omega arith) in
    search rules

pub expressions::number_beside-returns-in_err-value-clause-outcome : goal.expressions::number_beside-returns-in_err-value-clause-outcome
expressions::number_beside-returns-in_err-value-clause-outcome g t c =
    let is = call_shape c.args.e.now c.in-Call.f c.in-Call.arguments c.deref.result.now c.in-Call.is c.deref.ensures.value in
    rw is (search rules)

pub expressions::number_beside-returns-in-Call-clause-outcome : goal.expressions::number_beside-returns-in-Call-clause-outcome
expressions::number_beside-returns-in-Call-clause-outcome g t c =
    let is = call_shape c.args.e.now c.in-Call.f c.in-Call.arguments c.deref.result.now c.in-Call.is c.deref.ensures.value in
    rw (is, c.invoke.ensures.outcome) (grind (arith, common_steps))

pub expressions::text_into-call_text_into-requires : goal.expressions::text_into-call_text_into-requires
expressions::text_into-call_text_into-requires g t c =
    let is = call_shape c.args.e.now c.in-Call.f c.in-Call.arguments c.deref.result.now c.in-Call.is c.deref.ensures.value in
    let falls : arguments_weight (arguments (argument_views c.deref.result.now)) + 2 < weight (view c.args.e.now) + 2 = rw is (omega arith) in
    search rules

pub expressions::text_into-returns-in-Call-clause-outcome : goal.expressions::text_into-returns-in-Call-clause-outcome
expressions::text_into-returns-in-Call-clause-outcome g t c =
    let is = call_shape c.args.e.now c.in-Call.f c.in-Call.arguments c.deref.result.now c.in-Call.is c.deref.ensures.value in
    rw is c.call_text_into.ensures.outcome

pub expressions::value-invoke-requires : goal.expressions::value-invoke-requires
expressions::value-invoke-requires g t c =
    let is = call_shape c.args.e.now c.in-Call.f c.in-Call.arguments c.deref-in-Call.result.now c.in-Call.is c.deref-in-Call.ensures.value in
    let falls : arguments_weight (arguments (argument_views c.deref-in-Call.result.now)) + 1 < weight (view c.args.e.now) + 2 = rw is (omega arith) in
    search rules

pub expressions::value-returns-in-Call-clause-outcome : goal.expressions::value-returns-in-Call-clause-outcome
expressions::value-returns-in-Call-clause-outcome g t c =
    let is = call_shape c.args.e.now c.in-Call.f c.in-Call.arguments c.deref-in-Call.result.now c.in-Call.is c.deref-in-Call.ensures.value in
    rw is c.invoke.ensures.outcome

pub places::place-key-requires : goal.places::place-key-requires
places::place-key-requires g t c =
    let is = element_shape c.args.p.now c.in-Element.array c.in-Element.keys c.deref.result.now c.in-Element.is c.deref.ensures.value in
    let falls : row_weight (exprs (views c.deref.result.now)) + 1 < place_weight (place_view c.args.p.now) = rw is (omega arith) in
    search rules

pub places::place-returns-in_err-key-in-Element-clause-outcome : goal.places::place-returns-in_err-key-in-Element-clause-outcome
places::place-returns-in_err-key-in-Element-clause-outcome g t c =
    let is = element_shape c.args.p.now c.in-Element.array c.in-Element.keys c.deref.result.now c.in-Element.is c.deref.ensures.value in
    rw is (grind (arith, common_steps))

pub places::place-returns-in_ok-key-in-Element-clause-outcome : goal.places::place-returns-in_ok-key-in-Element-clause-outcome
places::place-returns-in_ok-key-in-Element-clause-outcome g t c =
    let is = element_shape c.args.p.now c.in-Element.array c.in-Element.keys c.deref.result.now c.in-Element.is c.deref.ensures.value in
    rw (is, c.in_ok-key-in-Element.ensures.outcome) (grind (arith, common_steps))

pub assignments::set-returns-in_err-assign_in_place-clause-outcome : goal.assignments::set-returns-in_err-assign_in_place-clause-outcome
assignments::set-returns-in_err-assign_in_place-clause-outcome g t c =
    let stops = λ (h : Halt) (is : halt_of c.in_err-assign_in_place.field-0.0 ≡ Some h). c.in_err-assign_in_place.ensures.outcome h is (eres_in c.args.layer) (enter_in g.W.World.calls c.args.layer) in
    search rules

pub conditions::test-member-requires : goal.conditions::test-member-requires
conditions::test-member-requires g t c =
    let is = member_shape c.args.t.now c.in-In.array c.in-In.keys c.deref-in-In.result.now c.in-In.is c.deref-in-In.ensures.value in
    let falls : row_weight (exprs (views c.deref-in-In.result.now)) + 2 < test_weight (test_view c.args.t.now) = rw is (omega arith) in
    search rules

pub conditions::test-returns-in-In-clause-outcome : goal.conditions::test-returns-in-In-clause-outcome
conditions::test-returns-in-In-clause-outcome g t c =
    let is = member_shape c.args.t.now c.in-In.array c.in-In.keys c.deref-in-In.result.now c.in-In.is c.deref-in-In.ensures.value in
    rw is (grind (arith, common_steps))

pub strings::compose-join-requires : goal.strings::compose-join-requires
strings::compose-join-requires g t c =
    let is = join_shape c.args.t.now c.in-Join.es c.deref.result.now c.in-Join.is c.deref.ensures.value in
    let falls : row_weight (exprs (views c.deref.result.now)) < textual_weight (textual_view c.args.t.now) = rw is (omega arith) in
    search rules

pub strings::compose-returns-in-Join-clause-outcome : goal.strings::compose-returns-in-Join-clause-outcome
strings::compose-returns-in-Join-clause-outcome g t c =
    let is = join_shape c.args.t.now c.in-Join.es c.deref.result.now c.in-Join.is c.deref.ensures.value in
    rw is c.join.ensures.outcome

pub strings::compose-formatted-requires : goal.strings::compose-formatted-requires
strings::compose-formatted-requires g t c =
    let is = format_shape c.args.t.now c.in-Format.format c.in-Format.format c.in-Format.es c.deref-in-Format.result.now c.in-Format.is refl c.deref-in-Format.ensures.value in
    let falls : format_weight (format_view c.in-Format.format) + row_weight (exprs (views c.deref-in-Format.result.now)) + 1 < textual_weight (textual_view c.args.t.now) = rw is (omega arith) in
    search rules

pub strings::compose-returns-in_err-text-in-Format-clause-outcome : goal.strings::compose-returns-in_err-text-in-Format-clause-outcome
strings::compose-returns-in_err-text-in-Format-clause-outcome g t c =
    let is = format_shape c.args.t.now c.in-Format.format c.in-Format.format c.in-Format.es c.deref-in-Format.result.now c.in-Format.is refl c.deref-in-Format.ensures.value in
    rw is (grind (arith, common_steps))

pub strings::compose-returns-in_ok-extend_from_slice-in-Format-clause-outcome : goal.strings::compose-returns-in_ok-extend_from_slice-in-Format-clause-outcome
strings::compose-returns-in_ok-extend_from_slice-in-Format-clause-outcome g t c =
    let is = format_shape c.args.t.now c.in-Format.format c.in-Format.format c.in-Format.es c.deref-in-Format.result.now c.in-Format.is refl c.deref-in-Format.ensures.value in
    rw (is, c.in_ok-text-in-Format.ensures.outcome) (grind (arith, common_steps))

pub statements::statement-returns-in-If-clause-outcome : goal.statements::statement-returns-in-If-clause-outcome
statements::statement-returns-in-If-clause-outcome g t c =
    let is = if_shape c.args.s.now c.in-If.test c.in-If.body c.deref.result.now c.in-If.is c.deref.ensures.value in
    rw is c.choose.ensures.outcome

pub statements::statement-returns-in-Choose-clause-outcome : goal.statements::statement-returns-in-Choose-clause-outcome
statements::statement-returns-in-Choose-clause-outcome g t c =
    let is = choose_shape c.args.s.now c.in-Choose.test c.in-Choose.a c.in-Choose.b c.deref-in-Choose.result.now c.deref-in-Choose-2.result.now c.in-Choose.is c.deref-in-Choose.ensures.value c.deref-in-Choose-2.ensures.value in
    rw is c.choose-in-Choose.ensures.outcome

pub statements::statement-execute-requires : goal.statements::statement-execute-requires
statements::statement-execute-requires g t c =
    let is = do_shape c.args.s.now c.in-Do.body c.in-Do.test c.deref-in-Do.result.now c.in-Do.is c.deref-in-Do.ensures.value in
    let falls : body_weight (seen c.deref-in-Do.result.now) < statement_weight (stmt_view c.args.s.now) = rw is (omega arith) in
    search rules

-- ---- elements of rows

pub functions::pass-value-requires : goal.functions::pass-value-requires
functions::pass-value-requires g t c =
    let w = argument_in_row c.args.arguments.now c.loop-argument.argument-index c.argument-item.result c.loop-argument-test.true in
    let d = ap (λ a. argument_weight (argument_view a)) c.argument-item.is in
    let is = ap (λ a. argument_weight (argument_view a)) c.in-Value.is in
    let falls : weight (view c.in-Value.e) + 2 < arguments_weight (arguments (argument_views c.args.arguments.now)) = omega (arith, w, d, is) in
    search rules

pub operands::texts-text_into-requires : goal.operands::texts-text_into-requires
operands::texts-text_into-requires g t c =
    let w = expr_in_row c.args.es.now c.loop-e.e-index c.e-item.result c.loop-e-test.true in let d = ap (λ e. weight (view e)) c.e-item.is in search rules

pub operands::values-eval-requires : goal.operands::values-eval-requires
operands::values-eval-requires g t c =
    let w = expr_in_row c.args.es.now c.loop-e.e-index c.e-item.result c.loop-e-test.true in let d = ap (λ e. weight (view e)) c.e-item.is in search rules

pub strings::join-text_into-requires-in-loop-e : goal.strings::join-text_into-requires-in-loop-e
strings::join-text_into-requires-in-loop-e g t c =
    let w = expr_in_row c.in-Some.rest.now c.loop-e.e-index c.e-item.result c.loop-e-test.true in
    let d = ap (λ e. weight (view e)) c.e-item.is in
    let whole : c.args.es.now ≡ c.in-Some.first.now ∷ c.in-Some.rest.now = grind (arith, common_steps) in
    let row = ap (λ es. row_weight (exprs (views es))) whole in
    search rules

pub statements::execute-statement-requires : goal.statements::execute-statement-requires
statements::execute-statement-requires g t c =
    let w = statement_in_body c.args.body.now c.loop-s.s-index c.s-item.result c.loop-s-test.true in let d = ap (λ s. statement_weight (stmt_view s)) c.s-item.is in search rules

pub statements::execute-perform-requires : goal.statements::execute-perform-requires
statements::execute-perform-requires g t c =
    let w = statement_in_body c.args.body.now c.loop-s.s-index c.s-item.result c.loop-s-test.true in
    let d = ap (λ s. statement_weight (stmt_view s)) c.s-item.is in
    let is = ap statement_weight (simple_shape c.s-item.result c.in-Simple.simple c.in-Simple.is) in
    let falls : simple_weight (simple_view c.in-Simple.simple) < body_weight (seen c.args.body.now) = omega (arith, w, d, is) in
    search rules

pub statements::execute-returns-in_err-perform-clause-outcome : goal.statements::execute-returns-in_err-perform-clause-outcome
statements::execute-returns-in_err-perform-clause-outcome g t c =
    let eres = eres_in c.args.layer in
    let enter = enter_in g.W.World.calls c.args.layer in
    let next = simple_next g.W.World.calls eres enter c.args.body.now c.loop-s.s-index c.s-item.result c.in-Simple.simple (moment (g.W.World.state c.loop-s.world) c.loop-s.run) _ c.loop-s-test.true c.s-item.is c.in-Simple.is c.in_ok-tick.ensures.outcome in
    let stops : (h : Halt) → halt_of c.in_err-perform.field-0.0 ≡ Some h → execs g.W.World.calls eres enter (seen c.args.body.now) (moment (g.W.World.state c.args.world.now) c.args.run.now) ≡ halts h (g.W.World.state c.perform.new.world) (state_of c.perform.new.run.state) c.perform.new.run.output.items = λ h is. sym c.loop-s.invariant.0 ∙ next ∙ rw (c.in_err-perform.ensures.outcome h is) refl in
    search rules

pub statements::execute-loop-s-preserved-in-Simple : goal.statements::execute-loop-s-preserved-in-Simple
statements::execute-loop-s-preserved-in-Simple g t c =
    let eres = eres_in c.args.layer in
    let enter = enter_in g.W.World.calls c.args.layer in
    let next = simple_next g.W.World.calls eres enter c.args.body.now c.loop-s.s-index c.s-item.result c.in-Simple.simple (moment (g.W.World.state c.loop-s.world) c.loop-s.run) _ c.loop-s-test.true c.s-item.is c.in-Simple.is c.in_ok-tick.ensures.outcome in
    let rest : execs g.W.World.calls eres enter (seen c.args.body.now) (moment (g.W.World.state c.args.world.now) c.args.run.now) ≡ execs g.W.World.calls eres enter (seen (drop (suc c.loop-s.s-index) c.args.body.now)) (moment (g.W.World.state c.perform.new.world) c.perform.new.run) = sym c.loop-s.invariant.0 ∙ next ∙ rw c.in_ok-perform.ensures.outcome refl in
    (rw add-one (sym rest), omega arith)

pub functions::pass-returns-in_err-value-in-Value-clause-outcome : goal.functions::pass-returns-in_err-value-in-Value-clause-outcome
functions::pass-returns-in_err-value-in-Value-clause-outcome g t c =
    let eres = eres_in c.args.layer in
    let enter = enter_in g.W.World.calls c.args.layer in
    let at = moment (g.W.World.state c.loop-argument.world) c.loop-argument.run in
    let stops = λ (h : Halt) (is : halt_of c.in_err-value-in-Value.field-0.0 ≡ Some h). sym c.loop-argument.invariant.0 ∙ argument_in_row_halts g.W.World.calls eres enter c.args.arguments.now c.loop-argument.argument-index c.argument-item.result (holds_of c.loop-argument.values.items) at h _ _ _ c.loop-argument-test.true c.argument-item.is (value_argument_halts g.W.World.calls eres enter c.argument-item.result c.in-Value.e at h _ _ _ c.in-Value.is (c.in_err-value-in-Value.ensures.outcome h is)) in
    search rules

pub operands::texts-returns-in_err-text_into-clause-outcome : goal.operands::texts-returns-in_err-text_into-clause-outcome
operands::texts-returns-in_err-text_into-clause-outcome g t c =
    let eres = eres_in c.args.layer in
    let enter = enter_in g.W.World.calls c.args.layer in
    let stops : (h : Halt) → halt_of c.in_err-text_into.field-0.0 ≡ Some h → texts_of g.W.World.calls eres enter (exprs (views c.args.es.now)) c.args.parts.now (moment (g.W.World.state c.args.world.now) c.args.run.now) ≡ halts h (g.W.World.state c.text_into.new.world) (state_of c.text_into.new.run.state) c.text_into.new.run.output.items = λ h is. sym c.loop-e.invariant.0 ∙ text_in_row_halts g.W.World.calls eres enter c.args.es.now c.loop-e.e-index c.e-item.result c.loop-e.parts c.clear.new.self.items (moment (g.W.World.state c.loop-e.world) c.loop-e.run) h _ _ _ c.loop-e-test.true c.e-item.is (c.in_err-text_into.ensures.outcome h is) in
    search rules

pub operands::values-returns-in_err-held-clause-outcome : goal.operands::values-returns-in_err-held-clause-outcome
operands::values-returns-in_err-held-clause-outcome g t c =
    let eres = eres_in c.args.layer in
    let enter = enter_in g.W.World.calls c.args.layer in
    let stops : (h : Halt) → halt_of c.in_err-held.field-0.0 ≡ Some h → values_of g.W.World.calls eres enter (exprs (views c.args.es.now)) c.args.parts.now (moment (g.W.World.state c.args.world.now) c.args.run.now) ≡ halts h (g.W.World.state c.eval.new.world) (state_of c.eval.new.run.state) c.eval.new.run.output.items = λ h is. sym c.loop-e.invariant.0 ∙ value_in_row_halts g.W.World.calls eres enter c.args.es.now c.loop-e.e-index c.e-item.result c.loop-e.parts (moment (g.W.World.state c.loop-e.world) c.loop-e.run) h _ _ _ c.loop-e-test.true c.e-item.is (c.in_err-held.ensures.outcome h is) in
    search rules

pub strings::join-returns-in_err-text_into-in-Some-2-clause-outcome : goal.strings::join-returns-in_err-text_into-in-Some-2-clause-outcome
strings::join-returns-in_err-text_into-in-Some-2-clause-outcome g t c =
    let eres = eres_in c.args.layer in
    let enter = enter_in g.W.World.calls c.args.layer in
    let stops : (h : Halt) → halt_of c.in_err-text_into-in-Some-2.field-0.0 ≡ Some h → joined_texts g.W.World.calls eres enter (exprs (views c.args.es.now)) (moment (g.W.World.state c.args.world.now) c.args.run.now) ≡ halts h (g.W.World.state c.text_into-in-loop-e.new.world) (state_of c.text_into-in-loop-e.new.run.state) c.text_into-in-loop-e.new.run.output.items = λ h is. sym c.loop-e.invariant.0 ∙ operand_halts g.W.World.calls eres enter c.in-Some.rest.now c.loop-e.e-index c.e-item.result c.len-start.result c.loop-e.out.items (moment (g.W.World.state c.loop-e.world) c.loop-e.run) h _ _ _ c.loop-e-test.true c.e-item.is (c.in_err-text_into-in-Some-2.ensures.outcome h is) in
    search rules

pub strings::join-returns-in_err-within_limit-in-Some-clause-outcome : goal.strings::join-returns-in_err-within_limit-in-Some-clause-outcome
strings::join-returns-in_err-within_limit-in-Some-clause-outcome g t c =
    let eres = eres_in c.args.layer in
    let enter = enter_in g.W.World.calls c.args.layer in
    let start = c.len-start.result in
    let next = operand_next g.W.World.calls eres enter c.in-Some.rest.now c.loop-e.e-index c.e-item.result start c.loop-e.out.items c.text_into-in-loop-e.new.out.items (moment (g.W.World.state c.loop-e.world) c.loop-e.run) _ c.loop-e-test.true c.e-item.is c.loop-e.invariant.3 c.in_ok-text_into-in-Some-2.ensures.outcome in
    let long : within_limit (drop start c.text_into-in-loop-e.new.out.items) ≡ Err c.in_err-within_limit-in-Some.field-0.0 = grind (arith, common_steps) in
    let stops : joined_texts g.W.World.calls eres enter (exprs (views c.args.es.now)) (moment (g.W.World.state c.args.world.now) c.args.run.now) ≡ halts (fault c.in_err-within_limit-in-Some.field-0.0) (g.W.World.state c.text_into-in-loop-e.new.world) (state_of c.text_into-in-loop-e.new.run.state) c.text_into-in-loop-e.new.run.output.items = sym c.loop-e.invariant.0 ∙ next ∙ rw long refl in
    search rules

pub strings::join-loop-e-preserved : goal.strings::join-loop-e-preserved
strings::join-loop-e-preserved g t c =
    let eres = eres_in c.args.layer in
    let enter = enter_in g.W.World.calls c.args.layer in
    let start = c.len-start.result in
    let next = operand_next g.W.World.calls eres enter c.in-Some.rest.now c.loop-e.e-index c.e-item.result start c.loop-e.out.items c.text_into-in-loop-e.new.out.items (moment (g.W.World.state c.loop-e.world) c.loop-e.run) _ c.loop-e-test.true c.e-item.is c.loop-e.invariant.3 c.in_ok-text_into-in-Some-2.ensures.outcome in
    let short : within_limit (drop start c.text_into-in-loop-e.new.out.items) ≡ Ok (drop start c.text_into-in-loop-e.new.out.items) = grind (arith, common_steps) in
    let parts = text_after (eval g.W.World.calls eres enter (view c.e-item.result)) start c.loop-e.out.items c.text_into-in-loop-e.new.out.items (moment (g.W.World.state c.loop-e.world) c.loop-e.run) _ c.loop-e.invariant.3 c.in_ok-text_into-in-Some-2.ensures.outcome in
    let rest = sym c.loop-e.invariant.0 ∙ next ∙ ap (λ (r : Result (List ℕ) Fault). then_do (settle r (moment (g.W.World.state c.text_into-in-loop-e.new.world) c.text_into-in-loop-e.new.run)) (suffixed g.W.World.calls eres enter (exprs (views (drop (suc c.loop-e.e-index) c.in-Some.rest.now))))) short in
    (rw add-one (sym rest), omega arith, parts.1 ∙ c.loop-e.invariant.2, parts.2)

-- ---- leaves

pub conditions::member-returns-in-Some-clause-outcome : goal.conditions::member-returns-in-Some-clause-outcome
conditions::member-returns-in-Some-clause-outcome g t c = c.in-Some.ensures.outcome (eres_in c.args.layer) (enter_in g.W.World.calls c.args.layer)

pub expressions::number_at-returns-in-Some-clause-outcome : goal.expressions::number_at-returns-in-Some-clause-outcome
expressions::number_at-returns-in-Some-clause-outcome g t c = c.in-Some.ensures.outcome (eres_in c.args.layer) (enter_in g.W.World.calls c.args.layer)

pub expressions::read-returns-in-Some-clause-outcome : goal.expressions::read-returns-in-Some-clause-outcome
expressions::read-returns-in-Some-clause-outcome g t c = c.in-Some.ensures.outcome (eres_in c.args.layer) (enter_in g.W.World.calls c.args.layer)

pub expressions::text_at-returns-in-Some-clause-outcome : goal.expressions::text_at-returns-in-Some-clause-outcome
expressions::text_at-returns-in-Some-clause-outcome g t c = c.in-Some.ensures.outcome (eres_in c.args.layer) (enter_in g.W.World.calls c.args.layer)

pub assignments::add-returns-in-Some-clause-outcome : goal.assignments::add-returns-in-Some-clause-outcome
assignments::add-returns-in-Some-clause-outcome g t c = rw c.in-One.is (c.in-Some.ensures.outcome (eres_in c.args.layer) (enter_in g.W.World.calls c.args.layer))

pub assignments::add-returns-in-Some-leaf_add : goal.assignments::add-returns-in-Some-leaf_add
assignments::add-returns-in-Some-leaf_add g t c = record { left = c.in-Some-leaf_add.ensures.left; outcome = rw c.in-Of.is (c.in-Some-leaf_add.ensures.outcome (eres_in c.args.layer) (enter_in g.W.World.calls c.args.layer)) }

pub assignments::add_elsewhere-numeric-requires : goal.assignments::add_elsewhere-numeric-requires
assignments::add_elsewhere-numeric-requires g t c =
    let falls : numeric_weight (numeric_view c.in-Some.n.now) < place_weight (place_view c.args.to.now) = rw c.in-Some.ensures (omega arith) in
    search rules

-- ---- calls

pub functions::call-returns-in_err-tick-clause-outcome : goal.functions::call-returns-in_err-tick-clause-outcome
functions::call-returns-in_err-tick-clause-outcome g t c =
    let stops = λ (h : Halt) (is : halt_of c.in_err-tick.field-0.0 ≡ Some h). call_no_step g.W.World.calls (eres_in c.args.layer) (functions_of c.args.layer.context) c.args.layer.depth c.args.f (holds_of c.args.arguments.items) (moment (g.W.World.state c.args.world.now) c.args.run.now) h _ _ _ (c.in_err-tick.ensures.outcome h is) in
    search rules

pub functions::call-returns-then-layer-eq0-clause-outcome : goal.functions::call-returns-then-layer-eq0-clause-outcome
functions::call-returns-then-layer-eq0-clause-outcome g t c =
    let stops = call_too_deep g.W.World.calls (eres_in c.args.layer) (functions_of c.args.layer.context) c.args.layer.depth c.args.f (holds_of c.args.arguments.items) (moment (g.W.World.state c.args.world.now) c.args.run.now) _ c.if-layer-eq0.true c.in_ok-tick.ensures.outcome in
    search rules

pub functions::call-returns-in-None-clause-outcome : goal.functions::call-returns-in-None-clause-outcome
functions::call-returns-in-None-clause-outcome g t c =
    let pos : 0 < c.args.layer.depth = omega (arith, c.if-layer-eq0.false) in
    call_nothing g.W.World.calls (eres_in c.args.layer) (functions_of c.args.layer.context) c.args.layer.depth c.args.f (holds_of c.args.arguments.items) (moment (g.W.World.state c.args.world.now) c.args.run.now) _ pos c.in_ok-tick.ensures.outcome c.in-None.ensures

pub functions::call-body_value-requires : goal.functions::call-body_value-requires
functions::call-body_value-requires g t c =
    let w = body_in_list (functions_of c.args.layer.context) c.args.f (function_view c.in-Some.function.now) c.in-Some.ensures in
    let pos : 0 < c.args.layer.depth = omega (arith, c.if-layer-eq0.false) in
    let one : c.args.layer.depth ≡ c.args.layer.depth - 1 + 1 = omega (arith, pos) in
    let f : rank (functions_of c.args.layer.context) (c.args.layer.depth - 1) (body_weight (seen c.deref-in-Some.result.now) + 1) < rank (functions_of c.args.layer.context) c.args.layer.depth 0 = rw c.deref-in-Some.ensures.value (rank_falls (functions_of c.args.layer.context) c.args.layer.depth (c.args.layer.depth - 1) (body_weight (seen c.in-Some.function.now.body.items) + 1) one (omega (arith, w))) in
    search rules

pub functions::call-returns-in_err-value-in-Some-clause-outcome : goal.functions::call-returns-in_err-value-in-Some-clause-outcome
functions::call-returns-in_err-value-in-Some-clause-outcome g t c =
    let pos : 0 < c.args.layer.depth = omega (arith, c.if-layer-eq0.false) in
    let m1 = moment (g.W.World.state c.args.world.now) c.tick.new.run in
    let e : Entry = record { frame = holds_of c.replace-saved.new.dest.items; arrays = c.parameters.new.arrays.items } in
    let start : e ≡ entry_of c.in-Some.function.now.kinds.items (holds_of c.args.arguments.items) m1.arrays = ap (λ (x : Vec Parameter Global). let y : Entry = record { frame = holds_of x.items; arrays = c.parameters.new.arrays.items } in y) c.replace-saved.ensures.after ∙ sym c.in_ok-fresh-in-Some.ensures ∙ ap (λ ks. entry_of ks (holds_of c.args.arguments.items) m1.arrays) c.deref.ensures.value in
    let runs = call_runs g.W.World.calls (eres_in c.args.layer) (functions_of c.args.layer.context) c.args.layer.depth c.args.f (holds_of c.args.arguments.items) (function_view c.in-Some.function.now) (seen c.deref-in-Some.result.now) (moment (g.W.World.state c.args.world.now) c.args.run.now) m1 e pos c.in_ok-tick.ensures.outcome c.in-Some.ensures (ap seen c.deref-in-Some.ensures.value) start in
    let stops : (h : Halt) → halt_of c.in_err-value-in-Some.field-0.0 ≡ Some h → enter_in g.W.World.calls c.args.layer c.args.f (holds_of c.args.arguments.items) (moment (g.W.World.state c.args.world.now) c.args.run.now) ≡ halts h (g.W.World.state c.body_value.new.world) (state_of c.body_value.new.run.state) c.body_value.new.run.output.items = λ h is. rw (runs, c.in_err-value-in-Some.ensures.outcome h is) in
    search rules

pub functions::call-returns-in_ok-value-in-Some-clause-outcome : goal.functions::call-returns-in_ok-value-in-Some-clause-outcome
functions::call-returns-in_ok-value-in-Some-clause-outcome g t c =
    let pos : 0 < c.args.layer.depth = omega (arith, c.if-layer-eq0.false) in
    let m1 = moment (g.W.World.state c.args.world.now) c.tick.new.run in
    let e : Entry = record { frame = holds_of c.replace-saved.new.dest.items; arrays = c.parameters.new.arrays.items } in
    let start : e ≡ entry_of c.in-Some.function.now.kinds.items (holds_of c.args.arguments.items) m1.arrays = ap (λ (x : Vec Parameter Global). let y : Entry = record { frame = holds_of x.items; arrays = c.parameters.new.arrays.items } in y) c.replace-saved.ensures.after ∙ sym c.in_ok-fresh-in-Some.ensures ∙ ap (λ ks. entry_of ks (holds_of c.args.arguments.items) m1.arrays) c.deref.ensures.value in
    let runs = call_runs g.W.World.calls (eres_in c.args.layer) (functions_of c.args.layer.context) c.args.layer.depth c.args.f (holds_of c.args.arguments.items) (function_view c.in-Some.function.now) (seen c.deref-in-Some.result.now) (moment (g.W.World.state c.args.world.now) c.args.run.now) m1 e pos c.in_ok-tick.ensures.outcome c.in-Some.ensures (ap seen c.deref-in-Some.ensures.value) start in
    rw (runs, c.in_ok-value-in-Some.ensures.outcome) (grind (arith, common_steps))

-- ---- choices

pub statements::choose-returns-then-holds-clause-outcome : goal.statements::choose-returns-then-holds-clause-outcome
statements::choose-returns-then-holds-clause-outcome g t c =
    rw (c.in_ok-truth.ensures.outcome, c.in_ok-holds.was, c.if-holds.true) c.execute.ensures.outcome

pub statements::choose-returns-else-holds-clause-outcome : goal.statements::choose-returns-else-holds-clause-outcome
statements::choose-returns-else-holds-clause-outcome g t c =
    rw (c.in_ok-truth.ensures.outcome, c.in_ok-holds.was, c.if-holds.false) c.execute-else-holds.ensures.outcome

-- ---- turns of loops

pub loops::turns-returns-in_err-tick-clause-outcome : goal.loops::turns-returns-in_err-tick-clause-outcome
loops::turns-returns-in_err-tick-clause-outcome g t c =
    let eres = eres_in c.args.layer in
    let enter = enter_in g.W.World.calls c.args.layer in
    let check = test_or_true g.W.World.calls eres enter (contexts.test_view c.args.test) in
    let body = execs g.W.World.calls eres enter (seen c.args.body.now) in
    let last = act_or_none g.W.World.calls eres enter (last_view c.args.last) in
    let stops : (h : Halt) → halt_of c.in_err-tick.field-0.0 ≡ Some h → while_loop check body last (moment (g.W.World.state c.args.world.now) c.args.run.now) ≡ halts h (g.W.World.state c.turns.world) (state_of c.tick.new.run.state) c.tick.new.run.output.items = λ h is. sym c.turns.invariant.0.2 ∙ turn_no_step c.turns.invariant.0.0 check body last (moment (g.W.World.state c.turns.world) c.turns.run) h _ _ _ c.turns.invariant.0.1 (c.in_err-tick.ensures.outcome h is) in
    search rules

pub loops::turns-returns-in_err-truth-in-Some-clause-outcome : goal.loops::turns-returns-in_err-truth-in-Some-clause-outcome
loops::turns-returns-in_err-truth-in-Some-clause-outcome g t c =
    let eres = eres_in c.args.layer in
    let enter = enter_in g.W.World.calls c.args.layer in
    let check = test_or_true g.W.World.calls eres enter (contexts.test_view c.args.test) in
    let body = execs g.W.World.calls eres enter (seen c.args.body.now) in
    let last = act_or_none g.W.World.calls eres enter (last_view c.args.last) in
    let turn = turn_is c.turns.invariant.0.0 check body last (moment (g.W.World.state c.turns.world) c.turns.run) _ c.turns.invariant.0.1 c.in_ok-tick.ensures.outcome in
    let whole = sym c.turns.invariant.0.2 ∙ turn.2 in
    let stops : (h : Halt) → halt_of c.in_err-truth-in-Some.field-0.0 ≡ Some h → while_loop check body last (moment (g.W.World.state c.args.world.now) c.args.run.now) ≡ halts h (g.W.World.state c.truth.new.world) (state_of c.truth.new.run.state) c.truth.new.run.output.items = λ h is.
    let tested : check (moment (g.W.World.state c.turns.world) c.tick.new.run) ≡ halts h (g.W.World.state c.truth.new.world) (state_of c.truth.new.run.state) c.truth.new.run.output.items = (let stopped = c.in_err-truth-in-Some.ensures.outcome h is in grind (arith, common_steps)) in
    rw (whole, tested) in
    search rules

pub loops::turns-returns-in_err-holds-clause-outcome : goal.loops::turns-returns-in_err-holds-clause-outcome
loops::turns-returns-in_err-holds-clause-outcome g t c =
    let eres = eres_in c.args.layer in
    let enter = enter_in g.W.World.calls c.args.layer in
    let check = test_or_true g.W.World.calls eres enter (contexts.test_view c.args.test) in
    let body = execs g.W.World.calls eres enter (seen c.args.body.now) in
    let last = act_or_none g.W.World.calls eres enter (last_view c.args.last) in
    let turn = turn_is c.turns.invariant.0.0 check body last (moment (g.W.World.state c.turns.world) c.turns.run) _ c.turns.invariant.0.1 c.in_ok-tick.ensures.outcome in
    let whole = sym c.turns.invariant.0.2 ∙ turn.2 in
    let checked : check (moment (g.W.World.state c.turns.world) c.tick.new.run) ≡ gives c.match-test.truth (moment (g.W.World.state c.match-test.world) c.match-test.run) = elim c.match-test.branch [ loops::turns-in-None w ↦ grind (arith, common_steps) | loops::turns-in-Some+in_ok-truth-in-Some w ↦ grind (arith, common_steps) ] in
    let fewer : c.match-test.run.left ≤ c.tick.new.run.left = elim c.match-test.branch [ loops::turns-in-None w ↦ grind (arith, common_steps) | loops::turns-in-Some+in_ok-truth-in-Some w ↦ grind (arith, common_steps) ] in
    let stops : while_loop check body last (moment (g.W.World.state c.args.world.now) c.args.run.now) ≡ halts (fault c.in_err-holds.field-0.0) (g.W.World.state c.match-test.world) (state_of c.match-test.run.state) c.match-test.run.output.items = rw (whole, checked, c.in_err-holds.was) in
    search rules

pub loops::turns-returns-then-not-holds-clause-outcome : goal.loops::turns-returns-then-not-holds-clause-outcome
loops::turns-returns-then-not-holds-clause-outcome g t c =
    let eres = eres_in c.args.layer in
    let enter = enter_in g.W.World.calls c.args.layer in
    let check = test_or_true g.W.World.calls eres enter (contexts.test_view c.args.test) in
    let body = execs g.W.World.calls eres enter (seen c.args.body.now) in
    let last = act_or_none g.W.World.calls eres enter (last_view c.args.last) in
    let turn = turn_is c.turns.invariant.0.0 check body last (moment (g.W.World.state c.turns.world) c.turns.run) _ c.turns.invariant.0.1 c.in_ok-tick.ensures.outcome in
    let whole = sym c.turns.invariant.0.2 ∙ turn.2 in
    let checked : check (moment (g.W.World.state c.turns.world) c.tick.new.run) ≡ gives c.match-test.truth (moment (g.W.World.state c.match-test.world) c.match-test.run) = elim c.match-test.branch [ loops::turns-in-None w ↦ grind (arith, common_steps) | loops::turns-in-Some+in_ok-truth-in-Some w ↦ grind (arith, common_steps) ] in
    let fewer : c.match-test.run.left ≤ c.tick.new.run.left = elim c.match-test.branch [ loops::turns-in-None w ↦ grind (arith, common_steps) | loops::turns-in-Some+in_ok-truth-in-Some w ↦ grind (arith, common_steps) ] in
    rw (whole, checked, c.in_ok-holds.was, c.if-not-holds.true)

pub loops::turns-returns-in_err-flow-clause-outcome : goal.loops::turns-returns-in_err-flow-clause-outcome
loops::turns-returns-in_err-flow-clause-outcome g t c =
    let eres = eres_in c.args.layer in
    let enter = enter_in g.W.World.calls c.args.layer in
    let check = test_or_true g.W.World.calls eres enter (contexts.test_view c.args.test) in
    let body = execs g.W.World.calls eres enter (seen c.args.body.now) in
    let last = act_or_none g.W.World.calls eres enter (last_view c.args.last) in
    let turn = turn_is c.turns.invariant.0.0 check body last (moment (g.W.World.state c.turns.world) c.turns.run) _ c.turns.invariant.0.1 c.in_ok-tick.ensures.outcome in
    let whole = sym c.turns.invariant.0.2 ∙ turn.2 in
    let checked : check (moment (g.W.World.state c.turns.world) c.tick.new.run) ≡ gives c.match-test.truth (moment (g.W.World.state c.match-test.world) c.match-test.run) = elim c.match-test.branch [ loops::turns-in-None w ↦ grind (arith, common_steps) | loops::turns-in-Some+in_ok-truth-in-Some w ↦ grind (arith, common_steps) ] in
    let fewer : c.match-test.run.left ≤ c.tick.new.run.left = elim c.match-test.branch [ loops::turns-in-None w ↦ grind (arith, common_steps) | loops::turns-in-Some+in_ok-truth-in-Some w ↦ grind (arith, common_steps) ] in
    let stops : (h : Halt) → halt_of c.in_err-flow.field-0.0 ≡ Some h → while_loop check body last (moment (g.W.World.state c.args.world.now) c.args.run.now) ≡ halts h (g.W.World.state c.execute.new.world) (state_of c.execute.new.run.state) c.execute.new.run.output.items = λ h is. rw (whole, checked, c.in_ok-holds.was, c.if-not-holds.false, c.in_err-flow.ensures.outcome h is) in
    search rules

pub loops::turns-returns-in-Some-loop_end-clause-outcome : goal.loops::turns-returns-in-Some-loop_end-clause-outcome
loops::turns-returns-in-Some-loop_end-clause-outcome g t c =
    let eres = eres_in c.args.layer in
    let enter = enter_in g.W.World.calls c.args.layer in
    let check = test_or_true g.W.World.calls eres enter (contexts.test_view c.args.test) in
    let body = execs g.W.World.calls eres enter (seen c.args.body.now) in
    let last = act_or_none g.W.World.calls eres enter (last_view c.args.last) in
    let turn = turn_is c.turns.invariant.0.0 check body last (moment (g.W.World.state c.turns.world) c.turns.run) _ c.turns.invariant.0.1 c.in_ok-tick.ensures.outcome in
    let whole = sym c.turns.invariant.0.2 ∙ turn.2 in
    let checked : check (moment (g.W.World.state c.turns.world) c.tick.new.run) ≡ gives c.match-test.truth (moment (g.W.World.state c.match-test.world) c.match-test.run) = elim c.match-test.branch [ loops::turns-in-None w ↦ grind (arith, common_steps) | loops::turns-in-Some+in_ok-truth-in-Some w ↦ grind (arith, common_steps) ] in
    let fewer : c.match-test.run.left ≤ c.tick.new.run.left = elim c.match-test.branch [ loops::turns-in-None w ↦ grind (arith, common_steps) | loops::turns-in-Some+in_ok-truth-in-Some w ↦ grind (arith, common_steps) ] in
    rw (whole, checked, c.in_ok-holds.was, c.if-not-holds.false, c.in_ok-flow.ensures.outcome, c.in-Some-loop_end.ensures)

pub loops::turns-returns-in_err-perform-clause-outcome : goal.loops::turns-returns-in_err-perform-clause-outcome
loops::turns-returns-in_err-perform-clause-outcome g t c =
    let eres = eres_in c.args.layer in
    let enter = enter_in g.W.World.calls c.args.layer in
    let check = test_or_true g.W.World.calls eres enter (contexts.test_view c.args.test) in
    let body = execs g.W.World.calls eres enter (seen c.args.body.now) in
    let last = act_or_none g.W.World.calls eres enter (last_view c.args.last) in
    let turn = turn_is c.turns.invariant.0.0 check body last (moment (g.W.World.state c.turns.world) c.turns.run) _ c.turns.invariant.0.1 c.in_ok-tick.ensures.outcome in
    let whole = sym c.turns.invariant.0.2 ∙ turn.2 in
    let checked : check (moment (g.W.World.state c.turns.world) c.tick.new.run) ≡ gives c.match-test.truth (moment (g.W.World.state c.match-test.world) c.match-test.run) = elim c.match-test.branch [ loops::turns-in-None w ↦ grind (arith, common_steps) | loops::turns-in-Some+in_ok-truth-in-Some w ↦ grind (arith, common_steps) ] in
    let fewer : c.match-test.run.left ≤ c.tick.new.run.left = elim c.match-test.branch [ loops::turns-in-None w ↦ grind (arith, common_steps) | loops::turns-in-Some+in_ok-truth-in-Some w ↦ grind (arith, common_steps) ] in
    let stops : (h : Halt) → halt_of c.in_err-perform.field-0.0 ≡ Some h → while_loop check body last (moment (g.W.World.state c.args.world.now) c.args.run.now) ≡ halts h (g.W.World.state c.perform.new.world) (state_of c.perform.new.run.state) c.perform.new.run.output.items = λ h is.
    let acted = c.in_err-perform.ensures.outcome h is in
    let stopped : last (moment (g.W.World.state c.execute.new.world) c.execute.new.run) ≡ halts h (g.W.World.state c.perform.new.world) (state_of c.perform.new.run.state) c.perform.new.run.output.items = grind (arith, common_steps) in
    rw (whole, checked, c.in_ok-holds.was, c.if-not-holds.false, c.in_ok-flow.ensures.outcome, c.in_default.ensures, stopped) in
    search rules

pub loops::turns-turns-preserved : goal.loops::turns-turns-preserved
loops::turns-turns-preserved g t c =
    let eres = eres_in c.args.layer in
    let enter = enter_in g.W.World.calls c.args.layer in
    let check = test_or_true g.W.World.calls eres enter (contexts.test_view c.args.test) in
    let body = execs g.W.World.calls eres enter (seen c.args.body.now) in
    let last = act_or_none g.W.World.calls eres enter (last_view c.args.last) in
    let turn = turn_is c.turns.invariant.0.0 check body last (moment (g.W.World.state c.turns.world) c.turns.run) _ c.turns.invariant.0.1 c.in_ok-tick.ensures.outcome in
    let whole = sym c.turns.invariant.0.2 ∙ turn.2 in
    let checked : check (moment (g.W.World.state c.turns.world) c.tick.new.run) ≡ gives c.match-test.truth (moment (g.W.World.state c.match-test.world) c.match-test.run) = elim c.match-test.branch [ loops::turns-in-None w ↦ grind (arith, common_steps) | loops::turns-in-Some+in_ok-truth-in-Some w ↦ grind (arith, common_steps) ] in
    let fewer : c.match-test.run.left ≤ c.tick.new.run.left = elim c.match-test.branch [ loops::turns-in-None w ↦ grind (arith, common_steps) | loops::turns-in-Some+in_ok-truth-in-Some w ↦ grind (arith, common_steps) ] in
    let few : c.execute.new.run.left ≤ turn.0 = omega (arith, c.in_ok-tick.ensures.less, turn.1, c.turns.invariant.0.1, fewer, c.in_ok-flow.ensures.left) in
    let nothing : last (moment (g.W.World.state c.execute.new.world) c.execute.new.run) ≡ gives tt (moment (g.W.World.state c.execute.new.world) c.execute.new.run) = grind (arith, common_steps) in
    ((turn.0, few, sym (rw (whole, checked, c.in_ok-holds.was, c.if-not-holds.false, c.in_ok-flow.ensures.outcome, c.in_default.ensures, nothing))), omega arith)

pub loops::turns-turns-preserved-in-Continue-branch-5 : goal.loops::turns-turns-preserved-in-Continue-branch-5
loops::turns-turns-preserved-in-Continue-branch-5 g t c =
    let eres = eres_in c.args.layer in
    let enter = enter_in g.W.World.calls c.args.layer in
    let check = test_or_true g.W.World.calls eres enter (contexts.test_view c.args.test) in
    let body = execs g.W.World.calls eres enter (seen c.args.body.now) in
    let last = act_or_none g.W.World.calls eres enter (last_view c.args.last) in
    let turn = turn_is c.turns.invariant.0.0 check body last (moment (g.W.World.state c.turns.world) c.turns.run) _ c.turns.invariant.0.1 c.in_ok-tick.ensures.outcome in
    let whole = sym c.turns.invariant.0.2 ∙ turn.2 in
    let checked : check (moment (g.W.World.state c.turns.world) c.tick.new.run) ≡ gives c.match-test.truth (moment (g.W.World.state c.match-test.world) c.match-test.run) = elim c.match-test.branch [ loops::turns-in-None w ↦ grind (arith, common_steps) | loops::turns-in-Some+in_ok-truth-in-Some w ↦ grind (arith, common_steps) ] in
    let fewer : c.match-test.run.left ≤ c.tick.new.run.left = elim c.match-test.branch [ loops::turns-in-None w ↦ grind (arith, common_steps) | loops::turns-in-Some+in_ok-truth-in-Some w ↦ grind (arith, common_steps) ] in
    let few : c.perform.new.run.left ≤ turn.0 = omega (arith, c.in_ok-tick.ensures.less, turn.1, c.turns.invariant.0.1, fewer, c.in_ok-flow.ensures.left, c.in_ok-perform.ensures.left) in
    let acted : last (moment (g.W.World.state c.execute.new.world) c.execute.new.run) ≡ gives tt (moment (g.W.World.state c.perform.new.world) c.perform.new.run) = grind (arith, common_steps) in
    ((turn.0, few, sym (rw (whole, checked, c.in_ok-holds.was, c.if-not-holds.false, c.in_ok-flow.ensures.outcome, c.in_default.ensures, acted))), omega arith)

pub loops::walk-returns-in_err-tick-clause-outcome : goal.loops::walk-returns-in_err-tick-clause-outcome
loops::walk-returns-in_err-tick-clause-outcome g t c =
    let eres = eres_in c.args.layer in
    let enter = enter_in g.W.World.calls c.args.layer in
    let body = execs g.W.World.calls eres enter (seen c.args.body.now) in
    let some : c.loop-i.i < length c.in_ok-all.all = omega arith in
    let cons = drop-cons c.in_ok-all.all c.loop-i.i [] some in
    let whole = sym c.loop-i.invariant.0 ∙ ap (λ ks. visit_keys g.W.World.calls ks (variable_aim c.args.variable) body (moment (g.W.World.state c.loop-i.world) c.loop-i.run)) cons in
    let stops : (h : Halt) → halt_of c.in_err-tick.field-0.0 ≡ Some h → for_keys g.W.World.calls c.args.variable c.args.array body (moment (g.W.World.state c.args.world.now) c.args.run.now) ≡ halts h (g.W.World.state c.loop-i.world) (state_of c.tick.new.run.state) c.tick.new.run.output.items = λ h is. rw (whole, c.in_err-tick.ensures.outcome h is) in
    search rules

pub loops::walk-returns-in_err-set_key-clause-outcome : goal.loops::walk-returns-in_err-set_key-clause-outcome
loops::walk-returns-in_err-set_key-clause-outcome g t c =
    let eres = eres_in c.args.layer in
    let enter = enter_in g.W.World.calls c.args.layer in
    let body = execs g.W.World.calls eres enter (seen c.args.body.now) in
    let cons = keys_left c.in_ok-all.all c.loop-i.i c.text.result.now c.text.ensures in
    let whole = sym c.loop-i.invariant.0 ∙ ap (λ ks. visit_keys g.W.World.calls ks (variable_aim c.args.variable) body (moment (g.W.World.state c.loop-i.world) c.loop-i.run)) cons in
    let stops : (h : Halt) → halt_of c.in_err-set_key.field-0.0 ≡ Some h → for_keys g.W.World.calls c.args.variable c.args.array body (moment (g.W.World.state c.args.world.now) c.args.run.now) ≡ halts h (g.W.World.state c.set_key.new.world) (state_of c.set_key.new.run.state) c.set_key.new.run.output.items = λ h is. rw (whole, c.in_ok-tick.ensures.outcome, c.in_err-set_key.ensures.outcome h is) in
    search rules

pub loops::walk-returns-in_err-flow-clause-outcome : goal.loops::walk-returns-in_err-flow-clause-outcome
loops::walk-returns-in_err-flow-clause-outcome g t c =
    let eres = eres_in c.args.layer in
    let enter = enter_in g.W.World.calls c.args.layer in
    let body = execs g.W.World.calls eres enter (seen c.args.body.now) in
    let cons = keys_left c.in_ok-all.all c.loop-i.i c.text.result.now c.text.ensures in
    let whole = sym c.loop-i.invariant.0 ∙ ap (λ ks. visit_keys g.W.World.calls ks (variable_aim c.args.variable) body (moment (g.W.World.state c.loop-i.world) c.loop-i.run)) cons in
    let stops : (h : Halt) → halt_of c.in_err-flow.field-0.0 ≡ Some h → for_keys g.W.World.calls c.args.variable c.args.array body (moment (g.W.World.state c.args.world.now) c.args.run.now) ≡ halts h (g.W.World.state c.execute.new.world) (state_of c.execute.new.run.state) c.execute.new.run.output.items = λ h is. rw (whole, c.in_ok-tick.ensures.outcome, c.in_ok-set_key.ensures.outcome, c.in_err-flow.ensures.outcome h is) in
    search rules

pub loops::walk-returns-in-Some-clause-outcome : goal.loops::walk-returns-in-Some-clause-outcome
loops::walk-returns-in-Some-clause-outcome g t c =
    let eres = eres_in c.args.layer in
    let enter = enter_in g.W.World.calls c.args.layer in
    let body = execs g.W.World.calls eres enter (seen c.args.body.now) in
    let cons = keys_left c.in_ok-all.all c.loop-i.i c.text.result.now c.text.ensures in
    let whole = sym c.loop-i.invariant.0 ∙ ap (λ ks. visit_keys g.W.World.calls ks (variable_aim c.args.variable) body (moment (g.W.World.state c.loop-i.world) c.loop-i.run)) cons in
    rw (whole, c.in_ok-tick.ensures.outcome, c.in_ok-set_key.ensures.outcome, c.in_ok-flow.ensures.outcome, c.in-Some.ensures)

pub loops::walk-loop-i-preserved : goal.loops::walk-loop-i-preserved
loops::walk-loop-i-preserved g t c =
    let eres = eres_in c.args.layer in
    let enter = enter_in g.W.World.calls c.args.layer in
    let body = execs g.W.World.calls eres enter (seen c.args.body.now) in
    let cons = keys_left c.in_ok-all.all c.loop-i.i c.text.result.now c.text.ensures in
    let whole = sym c.loop-i.invariant.0 ∙ ap (λ ks. visit_keys g.W.World.calls ks (variable_aim c.args.variable) body (moment (g.W.World.state c.loop-i.world) c.loop-i.run)) cons in
    (rw add-one (sym (rw (whole, c.in_ok-tick.ensures.outcome, c.in_ok-set_key.ensures.outcome, c.in_ok-flow.ensures.outcome, c.in_default.ensures))), omega arith)
