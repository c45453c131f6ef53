use Rattle.std.proofs.Common.{◌≡◌, ◌≤◌, ℕ, ◌+◌, [], drop, take, length}
use Rattle.pawk_code.specs.Expressions.{exprs, arguments}
use Rattle.pawk_code.specs.ExpressionViews.{view, views, argument_view, argument_views, fields_view, format_view, function_view, numeric_view, pattern_view, place_view, test_view, textual_view}
use Rattle.pawk_code.specs.StatementViews.{seen, simple_view, stmt_view}
use Rattle.pawk_store.specs.Meaning.{texts_of, values_of, arguments_of, suffixed, joined_texts, execs, turns, while_loop, visit_keys, for_keys, act_or_none, test_or_true}
use Rattle.pawk_store.specs.Places.{variable_aim}
use Rattle.pawk_runtime.specs.Moments.{holds_of, moment}
use Rattle.pawk_eval.specs.Contexts.{functions_of, eres_in, enter_in, last_view}
use Rattle.pawk_eval.specs.Contexts as contexts
use Rattle.pawk_eval.proofs.Weights.{rank, weight, row_weight, place_weight, numeric_weight, function_weight, test_weight, textual_weight, pattern_weight, separator_weight, format_weight, argument_weight, arguments_weight, simple_weight, option_weight, option_simple_weight, statement_weight, body_weight, amount_weight}
use Rattle.pawk_eval.proofs.+evaluate.Given as goal

abbrev pub decreases-expressions::eval : goal.decreases-expressions::eval
decreases-expressions::eval g l = rank (functions_of l.layer.context) l.layer.depth (weight (view l.e.now))

abbrev pub decreases-expressions::read : goal.decreases-expressions::read
decreases-expressions::read g l = rank (functions_of l.layer.context) l.layer.depth (place_weight (place_view l.from.now) + 1)

abbrev pub decreases-expressions::invoke : goal.decreases-expressions::invoke
decreases-expressions::invoke g l = rank (functions_of l.layer.context) l.layer.depth (arguments_weight (arguments (argument_views l.arguments.now)) + 1)

abbrev pub decreases-expressions::lay_call : goal.decreases-expressions::lay_call
decreases-expressions::lay_call g l = rank (functions_of l.layer.context) l.layer.depth (arguments_weight (arguments (argument_views l.arguments.now)) + 2)

abbrev pub decreases-expressions::call_text_into : goal.decreases-expressions::call_text_into
decreases-expressions::call_text_into g l = rank (functions_of l.layer.context) l.layer.depth (arguments_weight (arguments (argument_views l.arguments.now)) + 2)

abbrev pub decreases-expressions::assign : goal.decreases-expressions::assign
decreases-expressions::assign g l = rank (functions_of l.layer.context) l.layer.depth (place_weight (place_view l.to.now) + weight (view l.e.now) + 1)

abbrev pub decreases-expressions::number : goal.decreases-expressions::number
decreases-expressions::number g l = rank (functions_of l.layer.context) l.layer.depth (weight (view l.e.now) + 2)

abbrev pub decreases-expressions::number_beside : goal.decreases-expressions::number_beside
decreases-expressions::number_beside g l = rank (functions_of l.layer.context) l.layer.depth (weight (view l.e.now) + 1)

abbrev pub decreases-expressions::number_at : goal.decreases-expressions::number_at
decreases-expressions::number_at g l = rank (functions_of l.layer.context) l.layer.depth (place_weight (place_view l.from.now) + 1)

abbrev pub decreases-expressions::truth : goal.decreases-expressions::truth
decreases-expressions::truth g l = rank (functions_of l.layer.context) l.layer.depth (weight (view l.e.now) + 2)

abbrev pub decreases-expressions::text_into : goal.decreases-expressions::text_into
decreases-expressions::text_into g l = rank (functions_of l.layer.context) l.layer.depth (weight (view l.e.now) + 2)

abbrev pub decreases-expressions::text_at : goal.decreases-expressions::text_at
decreases-expressions::text_at g l = rank (functions_of l.layer.context) l.layer.depth (place_weight (place_view l.from.now) + 1)

abbrev pub decreases-expressions::text : goal.decreases-expressions::text
decreases-expressions::text g l = rank (functions_of l.layer.context) l.layer.depth (weight (view l.e.now) + 3)

abbrev pub decreases-expressions::value : goal.decreases-expressions::value
decreases-expressions::value g l = rank (functions_of l.layer.context) l.layer.depth (weight (view l.e.now) + 2)

abbrev pub decreases-expressions::eval_apart : goal.decreases-expressions::eval_apart
decreases-expressions::eval_apart g l = rank (functions_of l.layer.context) l.layer.depth (weight (view l.e.now) + 1)

abbrev pub decreases-numbers::numeric : goal.decreases-numbers::numeric
decreases-numbers::numeric g l = rank (functions_of l.layer.context) l.layer.depth (numeric_weight (numeric_view l.n.now))

abbrev pub decreases-numbers::arithmetic : goal.decreases-numbers::arithmetic
decreases-numbers::arithmetic g l = rank (functions_of l.layer.context) l.layer.depth (weight (view l.a.now) + weight (view l.b.now) + 4)

abbrev pub decreases-numbers::arithmetic_with : goal.decreases-numbers::arithmetic_with
decreases-numbers::arithmetic_with g l = rank (functions_of l.layer.context) l.layer.depth (weight (view l.b.now) + 3)

abbrev pub decreases-conditions::holds : goal.decreases-conditions::holds
decreases-conditions::holds g l = rank (functions_of l.layer.context) l.layer.depth (weight (view l.e.now) + 3)

abbrev pub decreases-conditions::test : goal.decreases-conditions::test
decreases-conditions::test g l = rank (functions_of l.layer.context) l.layer.depth (test_weight (test_view l.t.now))

abbrev pub decreases-conditions::member : goal.decreases-conditions::member
decreases-conditions::member g l = rank (functions_of l.layer.context) l.layer.depth (row_weight (exprs (views l.keys.now)) + 2)

abbrev pub decreases-conditions::compare : goal.decreases-conditions::compare
decreases-conditions::compare g l = rank (functions_of l.layer.context) l.layer.depth (weight (view l.a.now) + weight (view l.b.now) + 2)

abbrev pub decreases-conditions::compare_values : goal.decreases-conditions::compare_values
decreases-conditions::compare_values g l = rank (functions_of l.layer.context) l.layer.depth (weight (view l.a.now) + weight (view l.b.now) + 1)

abbrev pub decreases-strings::textual : goal.decreases-strings::textual
decreases-strings::textual g l = rank (functions_of l.layer.context) l.layer.depth (textual_weight (textual_view l.t.now) + 1)

abbrev pub decreases-strings::compose : goal.decreases-strings::compose
decreases-strings::compose g l = rank (functions_of l.layer.context) l.layer.depth (textual_weight (textual_view l.t.now))

abbrev pub decreases-strings::join : goal.decreases-strings::join
decreases-strings::join g l = rank (functions_of l.layer.context) l.layer.depth (row_weight (exprs (views l.es.now)))

abbrev pub decreases-places::place : goal.decreases-places::place
decreases-places::place g l = rank (functions_of l.layer.context) l.layer.depth (place_weight (place_view l.p.now))

abbrev pub decreases-places::key : goal.decreases-places::key
decreases-places::key g l = rank (functions_of l.layer.context) l.layer.depth (row_weight (exprs (views l.keys.now)) + 1)

abbrev pub decreases-operands::texts : goal.decreases-operands::texts
decreases-operands::texts g l = rank (functions_of l.layer.context) l.layer.depth (row_weight (exprs (views l.es.now)))

abbrev pub decreases-functions::pass : goal.decreases-functions::pass
decreases-functions::pass g l = rank (functions_of l.layer.context) l.layer.depth (arguments_weight (arguments (argument_views l.arguments.now)))

abbrev pub decreases-numbers::function : goal.decreases-numbers::function
decreases-numbers::function g l = rank (functions_of l.layer.context) l.layer.depth (function_weight (function_view l.f.now))

abbrev pub decreases-numbers::split : goal.decreases-numbers::split
decreases-numbers::split g l = rank (functions_of l.layer.context) l.layer.depth (weight (view l.e.now) + separator_weight (fields_view l.by.now) + 4)

abbrev pub decreases-numbers::replace : goal.decreases-numbers::replace
decreases-numbers::replace g l = rank (functions_of l.layer.context) l.layer.depth (pattern_weight (pattern_view l.parts.pattern.now) + weight (view l.parts.text.now) + place_weight (place_view l.parts.place.now) + 4)

abbrev pub decreases-numbers::find : goal.decreases-numbers::find
decreases-numbers::find g l = rank (functions_of l.layer.context) l.layer.depth (weight (view l.e.now) + pattern_weight (pattern_view l.pattern.now) + 4)

abbrev pub decreases-conditions::matches : goal.decreases-conditions::matches
decreases-conditions::matches g l = rank (functions_of l.layer.context) l.layer.depth (weight (view l.e.now) + pattern_weight (pattern_view l.pattern.now) + 4)

abbrev pub decreases-strings::formatted : goal.decreases-strings::formatted
decreases-strings::formatted g l = rank (functions_of l.layer.context) l.layer.depth (format_weight (format_view l.format.now) + row_weight (exprs (views l.es.now)) + 1)

abbrev pub decreases-operands::values : goal.decreases-operands::values
decreases-operands::values g l = rank (functions_of l.layer.context) l.layer.depth (row_weight (exprs (views l.es.now)))

abbrev pub decreases-operands::operand : goal.decreases-operands::operand
decreases-operands::operand g l = rank (functions_of l.layer.context) l.layer.depth (pattern_weight (pattern_view l.pattern.now))

abbrev pub decreases-functions::call : goal.decreases-functions::call
decreases-functions::call g l = rank (functions_of l.layer.context) l.layer.depth (0)

abbrev pub decreases-functions::body_value : goal.decreases-functions::body_value
decreases-functions::body_value g l = rank (functions_of l.layer.context) l.layer.depth (body_weight (seen l.body.now) + 1)

abbrev pub decreases-statements::perform : goal.decreases-statements::perform
decreases-statements::perform g l = rank (functions_of l.layer.context) l.layer.depth (simple_weight (simple_view l.s.now))

abbrev pub decreases-statements::delete : goal.decreases-statements::delete
decreases-statements::delete g l = rank (functions_of l.layer.context) l.layer.depth (row_weight (exprs (views l.keys.now)) + 2)

abbrev pub decreases-amount::amount_number : goal.decreases-amount::amount_number
decreases-amount::amount_number g l = rank (functions_of l.layer.context) l.layer.depth (amount_weight l.amount)

abbrev pub decreases-numbers::change : goal.decreases-numbers::change
decreases-numbers::change g l = rank (functions_of l.layer.context) l.layer.depth (place_weight (place_view l.to.now) + amount_weight l.amount + 1)

abbrev pub decreases-assignments::add : goal.decreases-assignments::add
decreases-assignments::add g l = rank (functions_of l.layer.context) l.layer.depth (place_weight (place_view l.to.now) + amount_weight l.amount + 3)

abbrev pub decreases-assignments::add_to_target : goal.decreases-assignments::add_to_target
decreases-assignments::add_to_target g l = rank (functions_of l.layer.context) l.layer.depth (place_weight (place_view l.to.now) + amount_weight l.amount + 1)

abbrev pub decreases-assignments::add_elsewhere : goal.decreases-assignments::add_elsewhere
decreases-assignments::add_elsewhere g l = rank (functions_of l.layer.context) l.layer.depth (place_weight (place_view l.to.now) + amount_weight l.amount + 2)

abbrev pub decreases-assignments::set_elsewhere : goal.decreases-assignments::set_elsewhere
decreases-assignments::set_elsewhere g l = rank (functions_of l.layer.context) l.layer.depth (place_weight (place_view l.to.now) + weight (view l.e.now) + 1)

abbrev pub decreases-assignments::set : goal.decreases-assignments::set
decreases-assignments::set g l = rank (functions_of l.layer.context) l.layer.depth (place_weight (place_view l.to.now) + weight (view l.e.now) + 2)

abbrev pub decreases-statements::print_values : goal.decreases-statements::print_values
decreases-statements::print_values g l = rank (functions_of l.layer.context) l.layer.depth (row_weight (exprs (views l.es.now)) + 1)

abbrev pub decreases-statements::printf : goal.decreases-statements::printf
decreases-statements::printf g l = rank (functions_of l.layer.context) l.layer.depth (format_weight (format_view l.format.now) + row_weight (exprs (views l.es.now)) + 2)

abbrev pub decreases-statements::statement : goal.decreases-statements::statement
decreases-statements::statement g l = rank (functions_of l.layer.context) l.layer.depth (statement_weight (stmt_view l.s.now))

abbrev pub decreases-statements::execute : goal.decreases-statements::execute
decreases-statements::execute g l = rank (functions_of l.layer.context) l.layer.depth (body_weight (seen l.body.now))

abbrev pub decreases-statements::choose : goal.decreases-statements::choose
decreases-statements::choose g l = rank (functions_of l.layer.context) l.layer.depth (weight (view l.test.now) + body_weight (seen l.a.now) + body_weight (seen l.b.now) + 3)

abbrev pub decreases-loops::turns : goal.decreases-loops::turns
decreases-loops::turns g l = rank (functions_of l.layer.context) l.layer.depth (option_weight (contexts.test_view l.test) + option_simple_weight (last_view l.last) + body_weight (seen l.body.now) + 1)

abbrev pub decreases-loops::walk : goal.decreases-loops::walk
decreases-loops::walk g l = rank (functions_of l.layer.context) l.layer.depth (body_weight (seen l.body.now) + 2)

-- the text so far and the operands that are left give the whole
abbrev pub invariant-strings::join-loop-e : goal.invariant-strings::join-loop-e
invariant-strings::join-loop-e g l =
    let eres = eres_in l.layer in
    let enter = enter_in g.W.World.calls l.layer in
    (suffixed g.W.World.calls eres enter (exprs (views (drop l.e-index l.rest))) (drop l.start l.out.items) (moment (g.W.World.state l.world) l.run) ≡ joined_texts g.W.World.calls eres enter (exprs (views l.fn.es)) (moment (g.W.World.state l.fn.world) l.fn.run)) × (l.run.left ≤ l.fn.run.left) × (take l.start l.out.items ≡ l.fn.out.items) × (l.start ≤ length l.out.items)

-- the texts so far and the expressions that are left give the texts of all
abbrev pub invariant-operands::texts-loop-e : goal.invariant-operands::texts-loop-e
invariant-operands::texts-loop-e g l =
    let eres = eres_in l.layer in
    let enter = enter_in g.W.World.calls l.layer in
    (texts_of g.W.World.calls eres enter (exprs (views (drop l.e-index l.es))) l.parts (moment (g.W.World.state l.world) l.run) ≡ texts_of g.W.World.calls eres enter (exprs (views l.es)) l.fn.parts (moment (g.W.World.state l.fn.world) l.fn.run)) × (l.run.left ≤ l.fn.run.left)

abbrev pub invariant-functions::pass-loop-argument : goal.invariant-functions::pass-loop-argument
invariant-functions::pass-loop-argument g l =
    let eres = eres_in l.layer in
    let enter = enter_in g.W.World.calls l.layer in
    (arguments_of g.W.World.calls eres enter (arguments (argument_views (drop l.argument-index l.arguments))) (holds_of l.values.items) (moment (g.W.World.state l.world) l.run) ≡ arguments_of g.W.World.calls eres enter (arguments (argument_views l.arguments)) [] (moment (g.W.World.state l.fn.world) l.fn.run)) × (l.run.left ≤ l.fn.run.left)

-- the values so far and the expressions that are left give the values of all
abbrev pub invariant-operands::values-loop-e : goal.invariant-operands::values-loop-e
invariant-operands::values-loop-e g l =
    let eres = eres_in l.layer in
    let enter = enter_in g.W.World.calls l.layer in
    (values_of g.W.World.calls eres enter (exprs (views (drop l.e-index l.es))) l.parts (moment (g.W.World.state l.world) l.run) ≡ values_of g.W.World.calls eres enter (exprs (views l.es)) l.fn.parts (moment (g.W.World.state l.fn.world) l.fn.run)) × (l.run.left ≤ l.fn.run.left)

-- the statements that are left do what all of them do
abbrev pub invariant-statements::execute-loop-s : goal.invariant-statements::execute-loop-s
invariant-statements::execute-loop-s g l =
    let eres = eres_in l.layer in
    let enter = enter_in g.W.World.calls l.layer in
    (execs g.W.World.calls eres enter (seen (drop l.s-index l.body)) (moment (g.W.World.state l.world) l.run) ≡ execs g.W.World.calls eres enter (seen l.body) (moment (g.W.World.state l.fn.world) l.fn.run)) × (l.run.left ≤ l.fn.run.left)

-- n turns, which the steps that are left allow, do what the loop does
abbrev pub invariant-loops::turns-turns : goal.invariant-loops::turns-turns
invariant-loops::turns-turns g l =
    let eres = eres_in l.layer in
    let enter = enter_in g.W.World.calls l.layer in
    let check = test_or_true g.W.World.calls eres enter (contexts.test_view l.test) in
    let body = execs g.W.World.calls eres enter (seen l.body) in
    let last = act_or_none g.W.World.calls eres enter (last_view l.last) in
    ((k : ℕ) × (l.run.left ≤ k) × (turns k check body last (moment (g.W.World.state l.world) l.run) ≡ while_loop check body last (moment (g.W.World.state l.fn.world) l.fn.run))) × (l.run.left ≤ l.fn.run.left)

abbrev pub decreases-loops::turns-turns : goal.decreases-loops::turns-turns
decreases-loops::turns-turns g l = l.run.left

-- the keys that are left do what all of them do
abbrev pub invariant-loops::walk-loop-i : goal.invariant-loops::walk-loop-i
invariant-loops::walk-loop-i g l =
    let eres = eres_in l.layer in
    let enter = enter_in g.W.World.calls l.layer in
    let body = execs g.W.World.calls eres enter (seen l.body) in
    (visit_keys g.W.World.calls (drop l.i l.keys) (variable_aim l.variable) body (moment (g.W.World.state l.world) l.run) ≡ for_keys g.W.World.calls l.fn.variable l.fn.array body (moment (g.W.World.state l.fn.world) l.fn.run)) × (l.run.left ≤ l.fn.run.left)
