-- Statements and calls that ask what is permitted go in step.
use Rattle.std.proofs.Common.{◌≡◌, ℕ, pos, zero, suc, List, [], ◌∷◌, ◌++◌, Option, Some, None, refl, ap, ◌∙◌, inl, Bool, true, Result, Ok, length, take, drop, append_assoc}
use Rattle.std.specs.Prelude.{slice_get, MatchOption}
use Rattle.pawk_value.specs.declared.faults.Fault.{Fault}
use Rattle.pawk_value.specs.declared.faults.Fault.TheVariants as fault
use Rattle.pawk_value.specs.Value.{Val, Uninit, Text}
use Rattle.pawk_world.specs.Halts.{Halt}
use Rattle.pawk_world.specs.Halts as halt
use Rattle.pawk_store.specs.Slots.{ofs_slot, ors_slot}
use Rattle.pawk_code.specs.declared.name.Array.{Array}
use Rattle.pawk_code.specs.declared.name.Variable.{Variable}
use Rattle.pawk_code.specs.declared.program.ParameterKind.{ParameterKind}
use Rattle.pawk_code.specs.Expressions.{Expr}
use Rattle.pawk_code.specs.Statements.{Simple, set, add, count, print, printf, delete, clear, Leave, break, continue, next_record, next_file, exit, return, Stmt, simple, leave, when, choose, repeat, do_while, loop, walk, Stmts, done, next}
use Rattle.pawk_code.specs.Statements as code
use Rattle.pawk_code.specs.Programs.{Function}
use Rattle.pawk_store.specs.Parts.{Hold, Moment, Outcome, gives, Part, halt_with, then_do, entry_of}
use Rattle.pawk_store.specs.Places.{Aim, array_at, text_at, variable_aim, remove_in, clear_of, keys_of}
use Rattle.pawk_store.specs.Builtins.{joined_by, sign_of, formatted_text}
use Rattle.pawk_store.specs.Meaning.{Way, on, by_break, by_continue, by_return, value_of_way, left_by, status_by, and_then, after_left, after_turn, turns, while_loop, print_text, eval, act, leaves, act_or_none, test_or_true, visit_keys, for_keys, exec, execs, run_function, run_function_at, call_at}
use Rattle.pawk_store.specs.Lockstep.{Resource, function_slot, Access, writes, changes, removes, clears, walks, runs, AllHeld, EndsBy}
use Rattle.pawk_store.specs.Allows.{TouchesArray, TouchesVariable, Allows, AllowsSimple, AllowsLeave, AllowsSimpleIfAny, AllowsIfAny, AllowsStmt, AllowsStmts, AllowsBody, AllowsFunctions}
use Rattle.pawk_store.proofs.Later.{prefix_here, Any, Order, held_extended, holding_array, Later, later_then}
use Rattle.pawk_store.proofs.Going.{Track, Held, Goes, held_too, in_step_then, goes_bind, goes_plain, goes_halt, goes_fault, goes_settle, goes_tick, goes_framed, goes_stated, goes_left, goes_spelled, goes_as_number, goes_as_truth, goes_dropped, goes_if, goes_decide}
use Rattle.pawk_store.proofs.InExpressions.{Aims, aims_variable, goes_write_at, goes_add_at, goes_remove_in, goes_clear_of, goes_keys_of, goes_subscripts, goes_eval, goes_texts, goes_values, goes_aim, goes_format}

module _ {S T : Type 0} {t : Track S T} where
  pub goes_and_then : {p : Part S Way} {q : Part T Way} → Goes t Any p q → (way : Way) → Goes t Any (and_then p way) (and_then q way)
  goes_and_then h on = h
  goes_and_then h by_break = goes_plain by_break
  goes_and_then h by_continue = goes_plain by_continue
  goes_and_then h (by_return v) = goes_plain (by_return v)

  goes_after_left : {p : Part S Way} {q : Part T Way} → Goes t Any p q → (w : Option Way) → Goes t Any (after_left p w) (after_left q w)
  goes_after_left h None = h
  goes_after_left h (Some way) = goes_plain way

  goes_after_turn : {p : Part S Way} {q : Part T Way} → Goes t Any p q → (way : Way) → Goes t Any (after_turn p way) (after_turn q way)
  goes_after_turn h way = goes_after_left h (left_by way)

  goes_turns : (n : ℕ) {c : Part S (Result Bool Fault)} {c' : Part T (Result Bool Fault)} {body : Part S Way} {body' : Part T Way} {last : Part S (Unit {0})} {last' : Part T (Unit {0})} → Goes t Any c c' → Goes t Any body body' → Goes t Any last last' → Goes t Any (turns n c body last) (turns n c' body' last')
  goes_turns zero h k l = goes_fault Any fault.Steps
  goes_turns (suc n) h k l =
      goes_bind goes_tick (λ _ _. goes_decide h (λ b. goes_if b (goes_bind k (λ way _. goes_after_turn (goes_bind l (λ _ _. goes_turns n h k l)) way)) (goes_plain on)))

  goes_while_loop : {c : Part S (Result Bool Fault)} {c' : Part T (Result Bool Fault)} {body : Part S Way} {body' : Part T Way} {last : Part S (Unit {0})} {last' : Part T (Unit {0})} → Goes t Any c c' → Goes t Any body body' → Goes t Any last last' → Goes t Any (while_loop c body last) (while_loop c' body' last')
  goes_while_loop {c = c} {c' = c'} {body = body} {body' = body'} {last = last} {last' = last'} h k l =
      goes_left Any (λ n. turns n c body last) (λ n. turns n c' body' last') (λ n. goes_turns n h k l)

  goes_exit : (n : ℕ) → Goes t Any (halt_with {X = Way} (halt.exit n)) (halt_with {X = Way} (halt.exit n))
  goes_exit n = goes_halt Any (halt.exit n) (t.first.at_exit n) (t.second.at_exit n)

module _ {S T : Type 0} {t : Track S T} (eres : List (List ℕ)) where
  goes_print_text : (s : List ℕ) → Goes t Any (print_text s) (print_text s)
  goes_print_text s = record {
    first = λ m held. record { world = t.first.here m.world; output = (s, refl); state = t.order.here m.state; meets = (tt, held) };
    second = λ n held. record { world = t.second.here n.world; output = (s, refl); state = t.order.here n.state; meets = (tt, held) };
    alike = λ m n same held. inl (refl, record { worlds = same.worlds; states = same.states; frames = same.frames; arrays = same.arrays; outputs = ap (λ o. o ++ s) same.outputs ∙ append_assoc t.pair.ahead n.output s; lefts = same.lefts });
  }

  module _ (enter : ℕ → List Hold → Part S Val) (enter' : ℕ → List Hold → Part T Val) (entered_too : (f : ℕ) → t.pair.permits runs (function_slot f) → (values : List Hold) → Held t values → Goes t Any (enter f values) (enter' f values)) where
    evals : (e : Expr) → Allows t.pair.permits e → Goes t Any (eval t.pair.first_calls eres enter e) (eval t.pair.second_calls eres enter' e)
    evals e may = goes_eval eres enter enter' entered_too e may

    goes_act : (s : Simple) → AllowsSimple t.pair.permits s → Goes t Any (act t.pair.first_calls eres enter s) (act t.pair.second_calls eres enter' s)
    goes_act (code.drop e) may = goes_dropped (evals e may)
    goes_act (set p e) may = goes_bind (goes_aim eres enter enter' entered_too p may.0) (λ aim aims. goes_bind (evals e may.1) (λ v _. goes_write_at aim v (aims writes may.2)))
    goes_act (add s p e) may = goes_bind (goes_aim eres enter enter' entered_too p may.0) (λ aim aims. goes_bind (goes_as_number (evals e may.1)) (λ y _. goes_add_at s aim y (aims (changes s) may.2)))
    goes_act (count s p) may = goes_bind (goes_aim eres enter enter' entered_too p may.0) (λ aim aims. goes_add_at (sign_of s) aim (Ok (pos 1)) (aims (changes (sign_of s)) may.1))
    goes_act (print calm es) may =
        goes_bind (goes_texts eres enter enter' entered_too es may.0 []) (λ ts _.
        goes_spelled Any ofs_slot (λ ofs m. print_text (joined_by ofs ts ++ text_at t.pair.first_calls ors_slot m) m) (λ ofs m. print_text (joined_by ofs ts ++ text_at t.pair.second_calls ors_slot m) m) may.1 (λ ofs.
        goes_spelled Any ors_slot (λ ors. print_text (joined_by ofs ts ++ ors)) (λ ors. print_text (joined_by ofs ts ++ ors)) may.2 (λ ors. goes_print_text (joined_by ofs ts ++ ors))))
    goes_act (printf f calm es) may =
        goes_bind (goes_format eres enter enter' entered_too f may.0) (λ format _. goes_bind (goes_values eres enter enter' entered_too es may.1 []) (λ vs _. goes_bind (goes_settle (formatted_text format vs)) (λ s _. goes_print_text s)))
    goes_act (delete a ks) may =
        goes_bind (goes_subscripts eres enter enter' entered_too ks may.1 (goes_texts eres enter enter' entered_too ks may.0 [])) (λ key _. goes_framed Any (λ f. remove_in t.pair.first_calls (array_at f a) key) (λ f. remove_in t.pair.second_calls (array_at f a) key) (λ f held. goes_remove_in (array_at f a) key (holding_array t.pair.permits removes f a held may.2)))
    goes_act (clear a) may = goes_framed Any (λ f. clear_of t.pair.first_calls (array_at f a)) (λ f. clear_of t.pair.second_calls (array_at f a)) (λ f held. goes_clear_of (array_at f a) (holding_array t.pair.permits clears f a held may))

    goes_leaves : (l : Leave) → AllowsLeave t.pair.permits l → Goes t Any (leaves t.pair.first_calls eres enter l) (leaves t.pair.second_calls eres enter' l)
    goes_leaves break may = goes_plain by_break
    goes_leaves continue may = goes_plain by_continue
    goes_leaves next_record may = goes_halt Any halt.next t.first.at_next t.second.at_next
    goes_leaves next_file may = goes_halt Any halt.next_file (t.first.at_next_file may) (t.second.at_next_file may)
    goes_leaves (exit None) may = goes_stated Any (λ s. halt_with (halt.exit s.status)) (λ s. halt_with (halt.exit s.status)) (λ s. goes_exit s.status)
    goes_leaves (exit (Some e)) may = goes_bind (goes_as_number (evals e may)) (λ x _. goes_bind (goes_settle (status_by x)) (λ n _. goes_exit n))
    goes_leaves (return None) may = goes_plain (by_return Uninit)
    goes_leaves (return (Some e)) may = goes_bind (evals e may) (λ v _. goes_plain (by_return v))

    goes_act_or_none : (s : Option Simple) → AllowsSimpleIfAny t.pair.permits s → Goes t Any (act_or_none t.pair.first_calls eres enter s) (act_or_none t.pair.second_calls eres enter' s)
    goes_act_or_none None may = goes_plain (tt {0})
    goes_act_or_none (Some s) may = goes_act s may

    goes_test_or_true : (e : Option Expr) → AllowsIfAny t.pair.permits e → Goes t Any (test_or_true t.pair.first_calls eres enter e) (test_or_true t.pair.second_calls eres enter' e)
    goes_test_or_true None may = goes_plain (Ok true)
    goes_test_or_true (Some e) may = goes_as_truth (evals e may)

    goes_visit_keys : (keys : List (List ℕ)) (aim : Aim) → Aims t.pair.permits writes aim → {body : Part S Way} {body' : Part T Way} → Goes t Any body body' → Goes t Any (visit_keys t.pair.first_calls keys aim body) (visit_keys t.pair.second_calls keys aim body')
    goes_visit_keys [] aim may k = goes_plain on
    goes_visit_keys (key ∷ keys) aim may k =
        goes_bind goes_tick (λ _ _. goes_bind (goes_write_at aim (Text key) may) (λ _ _. goes_bind k (λ way _. goes_after_turn (goes_visit_keys keys aim may k) way)))

    goes_for_keys : (x : Variable) (a : Array) → TouchesVariable t.pair.permits writes x → TouchesArray t.pair.permits walks a → {body : Part S Way} {body' : Part T Way} → Goes t Any body body' → Goes t Any (for_keys t.pair.first_calls x a body) (for_keys t.pair.second_calls x a body')
    goes_for_keys x a may may' k = goes_bind
        (goes_framed Any (λ f. keys_of t.pair.first_calls (array_at f a)) (λ f. keys_of t.pair.second_calls (array_at f a)) (λ f held. goes_keys_of (array_at f a) (holding_array t.pair.permits walks f a held may')))
        (λ keys _. goes_visit_keys keys (variable_aim x) (aims_variable t.pair.permits writes x may) k)

    mutual
      goes_exec : (s : Stmt) → AllowsStmt t.pair.permits s → Goes t Any (exec t.pair.first_calls eres enter s) (exec t.pair.second_calls eres enter' s)
      goes_exec (simple s) may = goes_bind (goes_act s may) (λ _ _. goes_plain on)
      goes_exec (leave l) may = goes_leaves l may
      goes_exec (when c a) may = goes_decide (goes_as_truth (evals c may.0)) (λ h. goes_if h (goes_execs a may.1) (goes_plain on))
      goes_exec (choose c a b) may = goes_decide (goes_as_truth (evals c may.0)) (λ h. goes_if h (goes_execs a may.1) (goes_execs b may.2))
      goes_exec (repeat c a) may = goes_while_loop (goes_as_truth (evals c may.0)) (goes_execs a may.1) (goes_plain (tt {0}))
      goes_exec (do_while a c) may = goes_bind (goes_execs a may.0) (λ way _. goes_after_turn (goes_while_loop (goes_as_truth (evals c may.1)) (goes_execs a may.0) (goes_plain (tt {0}))) way)
      goes_exec (loop head a) may = goes_bind (goes_act_or_none head.first may.0.0) (λ _ _. goes_while_loop (goes_test_or_true head.condition may.0.1) (goes_execs a may.1) (goes_act_or_none head.last may.0.2))
      goes_exec (walk x a body) may = goes_for_keys x a may.0 may.1 (goes_execs body may.2)

      pub goes_execs : (ss : Stmts) → AllowsStmts t.pair.permits ss → Goes t Any (execs t.pair.first_calls eres enter ss) (execs t.pair.second_calls eres enter' ss)
      goes_execs done may = goes_plain on
      goes_execs (next s rest) may = goes_bind goes_tick (λ _ _. goes_bind (goes_exec s may.0) (λ way _. goes_and_then (goes_execs rest may.1) way))

-- the body of a function at a moment
abbrev inside : {Q : Type 0} → List ParameterKind → List Hold → Moment Q → Moment Q
inside kinds values m = let e = entry_of kinds values m.arrays in record m { frame = e.frame; arrays = e.arrays }

abbrev back : {Q : Type 0} → Moment Q → Way → Part Q Val
back m way after = gives (value_of_way way) (record after { frame = m.frame; arrays = take (length m.arrays) after.arrays })

later_outside : {Q X : Type 0} (permits : Access → Resource → Type 0) (ends : Halt → Type 0) (before : Q → Q → Type 0) (order : Order permits) (P : X → Type 0) (kinds : List ParameterKind) (values : List Hold) (m : Moment Q) (o : Outcome Q X) → Later permits ends before order P (inside kinds values m) o → Later permits ends before order P m o
later_outside permits ends before order P kinds values m o l = record { world = l.world; output = l.output; state = l.state; meets = l.meets }

held_inside : {Q : Type 0} (permits : Access → Resource → Type 0) (kinds : List ParameterKind) (values : List Hold) (m : Moment Q) → AllHeld permits values → AllHeld permits (inside kinds values m).frame
held_inside permits kinds values m held = held_extended permits (drop (length values) kinds) (record { frame = values; arrays = m.arrays }) held

body_map : (permits : Access → Resource → Type 0) (o : Option Function) {Q : Function → Type 0} → ((g : Function) → AllowsStmts permits g.body → Q g) → AllowsBody permits o → MatchOption o (Unit {0}) Q
body_map permits None h may = tt
body_map permits (Some g) h may = h g may

module _ {S T : Type 0} {t : Track S T} where
  -- the caller's parameters and local arrays are put back
  goes_back : (f f' : List Hold) (k k' : ℕ) → f ≡ f' → k ≡ k' → Held t f → Held t f' → (v : Val) → Goes t Any (λ after. gives v (record after { frame = f; arrays = take k after.arrays })) (λ after. gives v (record after { frame = f'; arrays = take k' after.arrays }))
  goes_back f f' k k' e d held held' v = record {
    first = λ m _. record { world = t.first.here m.world; output = prefix_here m.output; state = t.order.here m.state; meets = (tt, held) };
    second = λ n _. record { world = t.second.here n.world; output = prefix_here n.output; state = t.order.here n.state; meets = (tt, held') };
    alike = λ m n same _. inl (refl, record { worlds = same.worlds; states = same.states; frames = e; arrays = ap (λ j. take j m.arrays) d ∙ ap (take k') same.arrays; outputs = same.outputs; lefts = same.lefts });
  }

module _ {S T : Type 0} {t : Track S T} (eres : List (List ℕ)) where
  goes_called : (kinds : List ParameterKind) (values : List Hold) → Held t values → {body : Part S Way} {body' : Part T Way} → Goes t Any body body' → Goes t Any (run_function t.pair.first_calls eres kinds body values) (run_function t.pair.second_calls eres kinds body' values)
  goes_called kinds values held {body = body} {body' = body'} h = record {
    first = λ m mine. later_outside t.pair.permits (EndsBy t.first) t.pair.before t.order Any kinds values m (then_do (body (inside kinds values m)) (back m)) (later_then t.pair.permits t.pair.before t.pair.first_calls t.first t.order Any Any (inside kinds values m) (body (inside kinds values m)) (back m) (h.first (inside kinds values m) (held_inside t.pair.permits kinds values m held)) (λ way n _ _. record { world = t.first.here n.world; output = prefix_here n.output; state = t.order.here n.state; meets = (tt, mine) }));
    second = λ m mine. later_outside t.pair.permits (EndsBy t.second) t.pair.before_second t.order Any kinds values m (then_do (body' (inside kinds values m)) (back m)) (later_then t.pair.permits t.pair.before_second t.pair.second_calls t.second t.order Any Any (inside kinds values m) (body' (inside kinds values m)) (back m) (h.second (inside kinds values m) (held_inside t.pair.permits kinds values m held)) (λ way n _ _. record { world = t.second.here n.world; output = prefix_here n.output; state = t.order.here n.state; meets = (tt, mine) }));
    alike = λ m n same mine. in_step_then {t = t} Any Any
        (body (inside kinds values m))
        (body' (inside kinds values n))
        (back m)
        (back n)
        (h.first (inside kinds values m) (held_inside t.pair.permits kinds values m held)).meets
        (h.second (inside kinds values n) (held_inside t.pair.permits kinds values n held)).meets
        (λ way _. goes_back m.frame n.frame (length m.arrays) (length n.arrays) same.frames (ap length same.arrays) mine (held_too t.pair m n same mine) (value_of_way way))
        (h.alike (inside kinds values m) (inside kinds values n)
        (record { worlds = same.worlds; states = same.states; frames = ap (λ a. (entry_of kinds values a).frame) same.arrays; arrays = ap (λ a. (entry_of kinds values a).arrays) same.arrays; outputs = same.outputs; lefts = same.lefts })
        (held_inside t.pair.permits kinds values m held));
  }

  goes_called_at : (o : Option Function) (run : Stmts → Part S Way) (run' : Stmts → Part T Way) → MatchOption o (Unit {0}) (λ g. Goes t Any (run g.body) (run' g.body)) → (values : List Hold) → Held t values → Goes t Any (run_function_at t.pair.first_calls eres o run values) (run_function_at t.pair.second_calls eres o run' values)
  goes_called_at None run run' h values held = goes_plain Uninit
  goes_called_at (Some g) run run' h values held = goes_called g.kinds values held h

  pub goes_call_at : (fs : List Function) → AllowsFunctions t.pair.permits fs → (depth f : ℕ) → t.pair.permits runs (function_slot f) → (values : List Hold) → Held t values → Goes t Any (call_at t.pair.first_calls eres fs depth f values) (call_at t.pair.second_calls eres fs depth f values)
  unfolding call_at
  goes_call_at fs may zero f runnable values held = goes_bind goes_tick (λ _ _. goes_fault Any fault.Depth)
  goes_call_at fs may (suc depth) f runnable values held =
      goes_bind goes_tick (λ _ _. goes_called_at (slice_get fs f) (execs t.pair.first_calls eres (call_at t.pair.first_calls eres fs depth)) (execs t.pair.second_calls eres (call_at t.pair.second_calls eres fs depth)) (body_map t.pair.permits (slice_get fs f) (λ g h. goes_execs eres (call_at t.pair.first_calls eres fs depth) (call_at t.pair.second_calls eres fs depth) (goes_call_at fs may depth) g.body h) (may f runnable)) values held)

  pub goes_program : (fs : List Function) (ss : Stmts) → AllowsFunctions t.pair.permits fs → AllowsStmts t.pair.permits ss → (depth : ℕ) → Goes t Any (execs t.pair.first_calls eres (call_at t.pair.first_calls eres fs depth) ss) (execs t.pair.second_calls eres (call_at t.pair.second_calls eres fs depth) ss)
  goes_program fs ss may may' depth = goes_execs eres (call_at t.pair.first_calls eres fs depth) (call_at t.pair.second_calls eres fs depth) (goes_call_at fs may depth) ss may'
