-- Statements and calls that do not read NR do not look at it.
use Rattle.std.proofs.Common.{◌≡◌, ℕ, pos, zero, suc, List, [], ◌∷◌, ◌++◌, Option, Some, None, refl, Bool, true, false, Result, Ok, length, take}
use Rattle.std.specs.Prelude.{slice_get}
use Rattle.pawk_value.specs.declared.faults.Fault.{Fault}
use Rattle.pawk_value.specs.declared.faults.Fault.TheVariants as fault
use Rattle.pawk_value.specs.Value.{Val, Text}
use Rattle.pawk_world.specs.Halts as halt
use Rattle.pawk_world.specs.Worlds.{Calls}
use Rattle.pawk_store.specs.Slots.{ofs_slot, ors_slot}
use Rattle.pawk_code.specs.declared.name.Array.{Array}
use Rattle.pawk_code.specs.declared.name.Variable.{Variable}
use Rattle.pawk_code.specs.declared.program.ParameterKind.{ParameterKind}
use Rattle.pawk_code.specs.Expressions.{Expr, Exprs}
use Rattle.pawk_code.specs.Statements.{Simple, set, add, count, print, printf, delete, clear, Leave, break, continue, next_record, next_file, exit, return, Head, Stmt, simple, leave, when, choose, repeat, do_while, loop, walk, Stmts, done, next}
use Rattle.pawk_code.specs.Statements as statement
use Rattle.pawk_code.specs.Programs.{Function}
use Rattle.pawk_store.specs.Parts.{Hold, gives, Part, entry_of}
use Rattle.pawk_store.specs.Places.{Aim, array_at, variable_aim, text_at}
use Rattle.pawk_store.specs.Builtins.{joined_by, sign_of, formatted_text}
use Rattle.pawk_store.specs.Meaning.{Way, on, by_break, by_continue, by_return, value_of_way, left_by, status_by, and_then, after_left, after_turn, turns, while_loop, print_text, print_line, visit_keys, for_keys, subscripts, act, leaves, act_or_none, test_or_true, exec, execs, run_function, run_function_at, call_at}
use Rattle.pawk_numbered.specs.Mentions.{in_expression, in_expressions, in_place, in_format, in_simple, in_expression_if_any, in_simple_if_any, in_leave, in_head, in_statement, in_body, in_functions}
use Rattle.pawk_numbered.proofs.Blind.{IsBlind, neither, none_of_three, bind_blind, give_blind, halt_blind, settle_blind, tick_blind, number_blind, truth_blind, dropped_blind, if_blind, decide_blind, write_at_blind, add_at_blind, remove_in_blind, clear_of_blind, keys_of_blind}
use Rattle.pawk_numbered.proofs.InExpressions.{key_of_blind, eval_blind, texts_blind, values_blind, aim_blind, format_blind}

-- the body of the function of a slot, if there is one, does not read NR
abbrev IsFree : Option Function → Type 0
IsFree None = Unit {0}
IsFree (Some f) = in_body f.body ≡ false

free_at : (functions : List Function) → in_functions functions ≡ false → (f : ℕ) → IsFree (slice_get functions f)
free_at [] h f = tt
free_at (g ∷ gs) h zero = (neither (in_body g.body) (in_functions gs) h).0
free_at (g ∷ gs) h (suc f) = free_at gs (neither (in_body g.body) (in_functions gs) h).1 f

module _ {S : Type 0} {before : ℕ} (calls : Calls S) where
  print_text_blind : (s : List ℕ) → IsBlind {S = S} before (print_text s)
  print_text_blind s = record { same = λ m. refl }

  print_line_blind : (ts : List (List ℕ)) → IsBlind before (print_line calls ts)
  print_line_blind ts = record { same = λ m. (print_text_blind (joined_by (text_at calls ofs_slot m) ts ++ text_at calls ors_slot m)).same m }

  module _ (eres : List (List ℕ)) (enter : ℕ → List Hold → Part S Val) (entered : (f : ℕ) (values : List Hold) → IsBlind before (enter f values)) where
    subscripts_blind : (ks : Exprs) → in_expressions ks ≡ false → IsBlind before (subscripts calls eres enter ks)
    subscripts_blind ks h = bind_blind (texts_blind calls eres enter entered ks [] h) (λ ts. key_of_blind calls ts)

    act_blind : (s : Simple) → in_simple s ≡ false → IsBlind before (act calls eres enter s)
    act_blind (statement.drop e) h = dropped_blind (eval_blind calls eres enter entered e h)
    act_blind (set p e) h =
        let parts = neither (in_place p) (in_expression e) h in
        bind_blind (aim_blind calls eres enter entered p parts.0) (λ aim. bind_blind (eval_blind calls eres enter entered e parts.1) (λ v. write_at_blind calls aim v))
    act_blind (add s p e) h =
        let parts = neither (in_place p) (in_expression e) h in
        bind_blind (aim_blind calls eres enter entered p parts.0) (λ aim. bind_blind (number_blind (eval_blind calls eres enter entered e parts.1)) (λ y. add_at_blind calls s aim y))
    act_blind (count s p) h = bind_blind (aim_blind calls eres enter entered p h) (λ aim. add_at_blind calls (sign_of s) aim (Ok (pos 1)))
    act_blind (print calm es) h = bind_blind (texts_blind calls eres enter entered es [] h) (λ ts. print_line_blind ts)
    act_blind (printf f calm es) h =
        let parts = neither (in_format f) (in_expressions es) h in
        bind_blind (format_blind calls eres enter entered f parts.0) (λ format. bind_blind (values_blind calls eres enter entered es [] parts.1) (λ vs. bind_blind (settle_blind (formatted_text format vs)) (λ s. print_text_blind s)))
    act_blind (delete a ks) h = bind_blind (subscripts_blind ks h) (λ key. record { same = λ m. (remove_in_blind calls (array_at m.frame a) key).same m })
    act_blind (clear a) h = record { same = λ m. (clear_of_blind calls (array_at m.frame a)).same m }

    leaves_blind : (l : Leave) → in_leave l ≡ false → IsBlind before (leaves calls eres enter l)
    leaves_blind break h = record { same = λ m. refl }
    leaves_blind continue h = record { same = λ m. refl }
    leaves_blind next_record h = record { same = λ m. refl }
    leaves_blind next_file h = record { same = λ m. refl }
    leaves_blind (exit None) h = record { same = λ m. refl }
    leaves_blind (exit (Some e)) h =
        bind_blind (number_blind (eval_blind calls eres enter entered e h)) (λ x. bind_blind (settle_blind (status_by x)) (λ n. halt_blind (halt.exit n)))
    leaves_blind (return None) h = record { same = λ m. refl }
    leaves_blind (return (Some e)) h = bind_blind (eval_blind calls eres enter entered e h) (λ v. give_blind (by_return v))

    act_or_none_blind : (s : Option Simple) → in_simple_if_any s ≡ false → IsBlind before (act_or_none calls eres enter s)
    act_or_none_blind None h = give_blind (tt {0})
    act_or_none_blind (Some s) h = act_blind s h

    test_or_true_blind : (e : Option Expr) → in_expression_if_any e ≡ false → IsBlind before (test_or_true calls eres enter e)
    test_or_true_blind None h = give_blind (Ok true)
    test_or_true_blind (Some e) h = truth_blind (eval_blind calls eres enter entered e h)

    and_then_blind : {rest : Part S Way} → IsBlind before rest → (way : Way) → IsBlind before (and_then rest way)
    and_then_blind h on = h
    and_then_blind h by_break = give_blind by_break
    and_then_blind h by_continue = give_blind by_continue
    and_then_blind h (by_return v) = give_blind (by_return v)

    after_left_blind : {rest : Part S Way} → IsBlind before rest → (w : Option Way) → IsBlind before (after_left rest w)
    after_left_blind h None = h
    after_left_blind h (Some way) = give_blind way

    after_turn_blind : {rest : Part S Way} → IsBlind before rest → (way : Way) → IsBlind before (after_turn rest way)
    after_turn_blind h way = after_left_blind h (left_by way)

    turns_blind : (n : ℕ) {check : Part S (Result Bool Fault)} {body : Part S Way} {last : Part S (Unit {0})} → IsBlind before check → IsBlind before body → IsBlind before last → IsBlind before (turns n check body last)
    turns_blind zero h k l = halt_blind (halt.fault fault.Steps)
    turns_blind (suc n) h k l =
        bind_blind tick_blind (λ _. decide_blind h (λ b. if_blind b (bind_blind k (λ way. after_turn_blind (bind_blind l (λ _. turns_blind n h k l)) way)) (give_blind on)))

    loop_blind : {check : Part S (Result Bool Fault)} {body : Part S Way} {last : Part S (Unit {0})} → IsBlind before check → IsBlind before body → IsBlind before last → IsBlind before (while_loop check body last)
    loop_blind h k l = record { same = λ m. (turns_blind m.left h k l).same m }

    visit_blind : (keys : List (List ℕ)) (aim : Aim) {body : Part S Way} → IsBlind before body → IsBlind before (visit_keys calls keys aim body)
    visit_blind [] aim k = give_blind on
    visit_blind (key ∷ keys) aim k =
        bind_blind tick_blind (λ _. bind_blind (write_at_blind calls aim (Text key)) (λ _. bind_blind k (λ way. after_turn_blind (visit_blind keys aim k) way)))

    for_keys_blind : (x : Variable) (a : Array) {body : Part S Way} → IsBlind before body → IsBlind before (for_keys calls x a body)
    for_keys_blind x a k = record { same = λ m. (bind_blind (keys_of_blind calls (array_at m.frame a)) (λ keys. visit_blind keys (variable_aim x) k)).same m }

    mutual
      exec_blind : (s : Stmt) → in_statement s ≡ false → IsBlind before (exec calls eres enter s)
      exec_blind (simple s) h = bind_blind (act_blind s h) (λ _. give_blind on)
      exec_blind (leave l) h = leaves_blind l h
      exec_blind (when c a) h =
          let parts = neither (in_expression c) (in_body a) h in
          decide_blind (truth_blind (eval_blind calls eres enter entered c parts.0)) (λ t. if_blind t (execs_blind a parts.1) (give_blind on))
      exec_blind (choose c a b) h =
          let parts = none_of_three (in_expression c) (in_body a) (in_body b) h in
          decide_blind (truth_blind (eval_blind calls eres enter entered c parts.0)) (λ t. if_blind t (execs_blind a parts.1) (execs_blind b parts.2))
      exec_blind (repeat c a) h =
          let parts = neither (in_expression c) (in_body a) h in
          loop_blind (truth_blind (eval_blind calls eres enter entered c parts.0)) (execs_blind a parts.1) (give_blind (tt {0}))
      exec_blind (do_while a c) h =
          let parts = neither (in_expression c) (in_body a) h in
          let turn = execs_blind a parts.1 in
          bind_blind turn (λ way. after_turn_blind (loop_blind (truth_blind (eval_blind calls eres enter entered c parts.0)) turn (give_blind (tt {0}))) way)
      exec_blind (loop head a) h =
          let parts = neither (in_head head) (in_body a) h in
          let of_head = none_of_three (in_simple_if_any head.first) (in_expression_if_any head.condition) (in_simple_if_any head.last) parts.0 in
          bind_blind (act_or_none_blind head.first of_head.0) (λ _. loop_blind (test_or_true_blind head.condition of_head.1) (execs_blind a parts.1) (act_or_none_blind head.last of_head.2))
      exec_blind (walk x a body) h = for_keys_blind x a (execs_blind body h)

      pub execs_blind : (ss : Stmts) → in_body ss ≡ false → IsBlind before (execs calls eres enter ss)
      execs_blind done h = give_blind on
      execs_blind (next s rest) h =
          let parts = neither (in_statement s) (in_body rest) h in
          bind_blind tick_blind (λ _. bind_blind (exec_blind s parts.0) (λ way. and_then_blind (execs_blind rest parts.1) way))

  -- ---- calls

  module _ (eres : List (List ℕ)) where
    function_body_blind : (kinds : List ParameterKind) {body : Part S Way} → IsBlind before body → (values : List Hold) → IsBlind before (run_function calls eres kinds body values)
    function_body_blind kinds {body = body} h values = record {
      same = λ m.
          let e = entry_of kinds values m.arrays in
          let back : Way → Part S Val = λ way after. gives (value_of_way way) (record after { frame = m.frame; arrays = take (length m.arrays) after.arrays }) in
          (bind_blind {part = body} {k = back} h (λ way. record { same = λ n. refl })).same (record m { frame = e.frame; arrays = e.arrays });
    }

    function_at_blind : (o : Option Function) → IsFree o → (run : Stmts → Part S Way) → ((body : Stmts) → in_body body ≡ false → IsBlind before (run body)) → (values : List Hold) → IsBlind before (run_function_at calls eres o run values)
    function_at_blind None free run h values = record { same = λ m. refl }
    function_at_blind (Some f) free run h values = function_body_blind f.kinds (h f.body free) values

    pub call_blind : (functions : List Function) → in_functions functions ≡ false → (depth f : ℕ) (values : List Hold) → IsBlind before (call_at calls eres functions depth f values)
    unfolding call_at
    call_blind functions free zero f values = bind_blind tick_blind (λ _. halt_blind (halt.fault fault.Depth))
    call_blind functions free (suc depth) f values =
        let inner = call_blind functions free depth in
        bind_blind tick_blind (λ _. function_at_blind (slice_get functions f) (free_at functions free f) (execs calls eres (call_at calls eres functions depth)) (λ body h. execs_blind eres (call_at calls eres functions depth) inner body h) values)
