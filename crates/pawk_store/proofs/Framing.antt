-- What was written before a part of a run stays in front of what it writes.
use Rattle.std.proofs.Common.{◌≡◌, ℕ, ℤ, pos, zero, suc, List, [], ◌∷◌, ◌++◌, Option, Some, None, refl, ap, ◌∙◌, Bool, true, false, not, if◌then◌else◌, Result, Ok, Err, length, take, append_assoc}
use Rattle.std.specs.Prelude.{◌==◌, slice_get, is_some, int_le}
use Rattle.pawk_value.specs.declared.faults.Fault.{Fault}
use Rattle.pawk_value.specs.declared.faults.Fault.TheVariants as fault
use Rattle.pawk_value.specs.Value.{Val, Num, Text, Maybe}
use Rattle.pawk_value.specs.Conversion.{num_of, text_of, truth_of as truth_in}
use Rattle.pawk_value.specs.declared.arithmetic.Op.{Op}
use Rattle.pawk_record.specs.Records.{Record, read as read_record, with_field, with_text}
use Rattle.pawk_array.specs.Entries.{keys}
use Rattle.pawk_world.specs.Halts.{Halt}
use Rattle.pawk_world.specs.Halts as halt
use Rattle.pawk_world.specs.Sums.{arith_by, op_of}
use Rattle.pawk_world.specs.Worlds.{Answer, Calls}
use Rattle.pawk_world.specs.Worlds as world
use Rattle.pawk_store.specs.RecordStates.{RecordState, is_paragraph}
use Rattle.pawk_store.specs.Slots.{fs_slot, ofs_slot, ors_slot, subsep_slot}
use Rattle.pawk_code.specs.declared.name.Array.{Array}
use Rattle.pawk_code.specs.declared.name.Variable.{Variable}
use Rattle.pawk_code.specs.declared.word.Sign.{Sign}
use Rattle.pawk_code.specs.declared.program.ParameterKind.{ParameterKind}
use Rattle.pawk_code.specs.Expressions.{Expr, leaf, numeric, test, textual, read, choice, assign, call, Leaf, number, text, global, local, Exprs, none, more, Place, to_global, to_local, to_element, to_field, Numeric, arithmetic, signed, change, step, function, split, replace, find, NumericFunction, length_of, index_of, whole, Test, compare, both, either, negation, matches, member, Textual, join, suffix, substring, letters, formatted, Pattern, fixed_pattern, spelled_by, FieldsBy, by_fs, by_fixed, by_value, Format, fixed_format, Argument, pass, pass_array, Arguments, no_arguments, more_arguments}
use Rattle.pawk_code.specs.Expressions as code
use Rattle.pawk_code.specs.Statements.{Simple, set, add, count, print, printf, delete, clear, Leave, break, continue, next_record, next_file, exit, return, Stmt, simple, leave, when, choose, repeat, do_while, loop, walk, Stmts, done, next}
use Rattle.pawk_code.specs.Statements as statement
use Rattle.pawk_code.specs.Programs.{Selector, always, matching, between, Rule, Function, Code}
use Rattle.pawk_input.specs.Input.{Item}
use Rattle.pawk_store.specs.Limits.{greatest_calls}
use Rattle.pawk_store.specs.Parts.{Hold, value, global_array, local_array, Moment, Outcome, gives, halts, Part, give, halt_with, settle, ask, then_do, bind, as_number, as_truth, as_text, tick, tick_at, entry_of}
use Rattle.pawk_store.specs.Places.{Aim, parameter, cell, local_element, nowhere, array_at, element_of, variable_aim, index_by, text_at, with_record, field_value, read_at, old_at, write_at, change_at, add_at, holds_in, remove_in, clear_of, keys_of}
use Rattle.pawk_store.specs.Places as places
use Rattle.pawk_store.specs.Builtins.{within_limit, joined_by, index, bytes_where, is_from, letters_in, Replaced, replaced_by, found_by, sign_of, side_of, related, same_truth, formatted_text, decimal}
use Rattle.pawk_store.specs.Meaning.{Way, on, by_break, by_continue, by_return, value_of_way, left_by, status_by, one_or_zero, both_of, decide, and_then, after_left, after_turn, turns, while_loop, pattern_of, print_text, value_of_leaf, print_line, key_of, fill_from, pieces_of, split_into, put_replaced, visit_keys, for_keys, eval, number_of, function_of, truth_of, text_of_textual, joined_texts, suffixed, texts_of, values_of, arguments_of, argument_of, aim_of, operand_of, format_of, separator_of, subscripts, act, leaves, act_or_none, test_or_true, exec, execs, run_function, run_function_at, call_at}
use Rattle.pawk_store.specs.Records.{Left, through, clash, is_inside, End, end_of_halt, end_of, run_part, after_read, stays_inside, holds, does, reads, begins, in_range, selects, does_rule, rules_from, one_record, actions}
use Rattle.pawk_store.specs.Records as records
use Rattle.pawk_store.specs.Runs.{is_skipped, after_leaving, at_end, records_from, ends_from, after_records}
use Rattle.pawk_store.specs.Outputs.{with_output_before, finish_with_output_before}

-- a moment and an outcome with this in front of the output
abbrev pub later_moment : {S : Type 0} → List ℕ → Moment S → Moment S
later_moment out m = record m { output = out ++ m.output }

abbrev pub later_outcome : {S X : Type 0} → List ℕ → Outcome S X → Outcome S X
later_outcome out (gives x m) = gives x (later_moment out m)
later_outcome out (halts h s state o) = halts h s state (out ++ o)

-- a part does not look at what was written before it
pub record Appends {S X : Type 0} (out : List ℕ) (part : Part S X) : Type 0 where
  same : (m : Moment S) → part (later_moment out m) ≡ later_outcome out (part m)

module _ {S : Type 0} {out : List ℕ} where
  then_appends : {X Y : Type 0} (o : Outcome S X) (k : X → Part S Y) → ((x : X) → Appends out (k x)) → then_do (later_outcome out o) k ≡ later_outcome out (then_do o k)
  then_appends (gives x m) k h = (h x).same m
  then_appends (halts i s state o) k h = refl

  pub bind_appends : {X Y : Type 0} {part : Part S X} {k : X → Part S Y} → Appends out part → ((x : X) → Appends out (k x)) → Appends out (bind part k)
  bind_appends {part = part} {k = k} g h = record { same = λ m. ap (λ o. then_do o k) (g.same m) ∙ then_appends (part m) k h }

  pub give_appends : {X : Type 0} (x : X) → Appends {S = S} out (give x)
  give_appends x = record { same = λ m. refl }

  halt_appends : {X : Type 0} (h : Halt) → Appends {S = S} {X = X} out (halt_with h)
  halt_appends h = record { same = λ m. refl }

  settle_appends : {X : Type 0} (r : Result X Fault) → Appends {S = S} out (settle r)
  settle_appends (Ok x) = record { same = λ m. refl }
  settle_appends (Err f) = record { same = λ m. refl }

  answer_appends : {X : Type 0} (a : Answer S X) → Appends out (ask a)
  answer_appends (world.gives x s) = record { same = λ m. refl }
  answer_appends (world.halts h s) = record { same = λ m. refl }

  tick_at_appends : (n : ℕ) → Appends {S = S} out (tick_at n)
  tick_at_appends zero = record { same = λ m. refl }
  tick_at_appends (suc n) = record { same = λ m. refl }

  tick_appends : Appends {S = S} out tick
  tick_appends = record { same = λ m. (tick_at_appends m.left).same m }

  number_appends : {part : Part S Val} → Appends out part → Appends out (as_number part)
  number_appends g = bind_appends g (λ v. give_appends (num_of v))

  truth_appends : {part : Part S Val} → Appends out part → Appends out (as_truth part)
  truth_appends g = bind_appends g (λ v. give_appends (truth_in v))

  text_appends : (s : List ℕ) {part : Part S Val} → Appends out part → Appends out (as_text s part)
  text_appends s g = bind_appends g (λ v. give_appends (s ++ text_of v))

  dropped_appends : {X : Type 0} {part : Part S X} → Appends out part → Appends out (bind part (λ _. give (tt {0})))
  dropped_appends g = bind_appends g (λ _. give_appends (tt {0}))

  if_appends : {X : Type 0} (b : Bool) {p q : Part S X} → Appends out p → Appends out q → Appends out (if b then p else q)
  if_appends true g h = g
  if_appends false g h = h

  decide_appends : {X : Type 0} {p : Part S (Result Bool Fault)} {k : Bool → Part S X} → Appends out p → ((b : Bool) → Appends out (k b)) → Appends out (decide p k)
  decide_appends g h = bind_appends g (λ r. bind_appends (settle_appends r) h)

  record_appends : (r : Result Record Fault) → Appends {S = S} out (with_record r)
  record_appends (Ok r) = record { same = λ m. refl }
  record_appends (Err f) = record { same = λ m. refl }

module _ {S : Type 0} {out : List ℕ} (calls : Calls S) where
  -- ---- places

  field_value_appends : (n : ℕ) (v : Val) → Appends out (field_value calls n v)
  field_value_appends zero v = record { same = λ m. (record_appends (with_text (text_at calls fs_slot m) (is_paragraph m.state) (text_of v))).same m }
  field_value_appends (suc n) v = record { same = λ m. (record_appends (with_field (suc n) v (text_at calls ofs_slot m) m.state.line)).same m }

  read_at_appends : (aim : Aim) → Appends out (read_at calls aim)
  read_at_appends (parameter i) = record { same = λ m. refl }
  read_at_appends (cell (world.scalar n)) = record { same = λ m. refl }
  read_at_appends (cell (world.element n key)) = record { same = λ m. (answer_appends (calls.ask (world.read n key) m.world)).same m }
  read_at_appends (local_element n key) = record { same = λ m. refl }
  read_at_appends (places.field n) = record { same = λ m. refl }
  read_at_appends nowhere = record { same = λ m. refl }

  old_at_appends : (aim : Aim) → Appends out (old_at calls aim)
  old_at_appends (parameter i) = read_at_appends (parameter i)
  old_at_appends (cell (world.scalar n)) = read_at_appends (cell (world.scalar n))
  old_at_appends (cell (world.element n key)) = record { same = λ m. (answer_appends (calls.ask (world.old n key) m.world)).same m }
  old_at_appends (local_element n key) = read_at_appends (local_element n key)
  old_at_appends (places.field n) = read_at_appends (places.field n)
  old_at_appends nowhere = read_at_appends nowhere

  write_at_appends : (aim : Aim) (v : Val) → Appends out (write_at calls aim v)
  write_at_appends (parameter i) v = record { same = λ m. refl }
  write_at_appends (cell c) v = record { same = λ m. (answer_appends (calls.ask (world.write c v) m.world)).same m }
  write_at_appends (local_element n key) v = record { same = λ m. refl }
  write_at_appends (places.field n) v = field_value_appends n v
  write_at_appends nowhere v = record { same = λ m. refl }

  change_at_appends : (op : Op) (aim : Aim) (y : Result ℤ Fault) → Appends out (change_at calls op aim y)
  change_at_appends op aim y =
      bind_appends (number_appends (old_at_appends aim)) (λ x. bind_appends (settle_appends x) (λ old. bind_appends (settle_appends (arith_by op x y)) (λ z. bind_appends (write_at_appends aim (Num z)) (λ _. give_appends (old, z)))))

  add_at_appends : (sign : Sign) (aim : Aim) (y : Result ℤ Fault) → Appends out (add_at calls sign aim y)
  add_at_appends sign (cell c) y = record { same = λ m. (answer_appends (calls.ask (world.add sign c y) m.world)).same m }
  add_at_appends sign (parameter i) y = dropped_appends (change_at_appends (op_of sign) (parameter i) y)
  add_at_appends sign (local_element n key) y = dropped_appends (change_at_appends (op_of sign) (local_element n key) y)
  add_at_appends sign (places.field n) y = dropped_appends (change_at_appends (op_of sign) (places.field n) y)
  add_at_appends sign nowhere y = dropped_appends (change_at_appends (op_of sign) nowhere y)

  holds_in_appends : (x : Hold) (key : List ℕ) → Appends out (holds_in calls x key)
  holds_in_appends (value v) key = record { same = λ m. refl }
  holds_in_appends (global_array n) key = record { same = λ m. (answer_appends (calls.ask (world.test n key) m.world)).same m }
  holds_in_appends (local_array n) key = record { same = λ m. refl }

  remove_in_appends : (x : Hold) (key : List ℕ) → Appends out (remove_in calls x key)
  remove_in_appends (value v) key = record { same = λ m. refl }
  remove_in_appends (global_array n) key = record { same = λ m. (answer_appends (calls.ask (world.remove n key) m.world)).same m }
  remove_in_appends (local_array n) key = record { same = λ m. refl }

  clear_of_appends : (x : Hold) → Appends out (clear_of calls x)
  clear_of_appends (value v) = record { same = λ m. refl }
  clear_of_appends (global_array n) = record { same = λ m. (answer_appends (calls.ask (world.clear n) m.world)).same m }
  clear_of_appends (local_array n) = record { same = λ m. refl }

  keys_of_appends : (x : Hold) → Appends out (keys_of calls x)
  keys_of_appends (value v) = record { same = λ m. refl }
  keys_of_appends (global_array n) = record { same = λ m. (answer_appends (calls.ask (world.keys n) m.world)).same m }
  keys_of_appends (local_array n) = record { same = λ m. refl }

  -- ---- what expressions and statements rest on

  leaf_appends : (l : Leaf) → Appends out (value_of_leaf calls l)
  leaf_appends (number z) = record { same = λ m. refl }
  leaf_appends (text s) = record { same = λ m. refl }
  leaf_appends (global n) = record { same = λ m. refl }
  leaf_appends (local i) = record { same = λ m. refl }
  leaf_appends (code.special x) = record { same = λ m. refl }
  leaf_appends (code.field n) = record { same = λ m. refl }

  key_of_appends : (ks : List (List ℕ)) → Appends out (key_of calls ks)
  key_of_appends [] = record { same = λ m. refl }
  key_of_appends (k ∷ []) = record { same = λ m. refl }
  key_of_appends (k ∷ l ∷ ks) = record { same = λ m. (settle_appends (within_limit (joined_by (text_at calls subsep_slot m) (k ∷ l ∷ ks)))).same m }

  fill_from_appends : (to : Hold) (n : ℕ) (pieces : List (List ℕ)) → Appends out (fill_from calls to n pieces)
  fill_from_appends to n [] = record { same = λ m. refl }
  fill_from_appends to n (piece ∷ pieces) = bind_appends (write_at_appends (element_of to (decimal n)) (Maybe piece)) (λ _. fill_from_appends to (suc n) pieces)

  pieces_of_appends : (eres : List (List ℕ)) (by : FieldsBy) (u s : List ℕ) → Appends out (pieces_of calls eres by u s)
  pieces_of_appends eres by_fs u s = record { same = λ m. refl }
  pieces_of_appends eres (by_fixed n) u s = record { same = λ m. refl }
  pieces_of_appends eres (by_value e) u s = record { same = λ m. refl }

  split_into_appends : (to : Hold) {part : Part S (Result (List (List ℕ)) Fault)} → Appends out part → Appends out (split_into calls to part)
  split_into_appends to g =
      bind_appends (clear_of_appends to) (λ _. bind_appends g (λ r. bind_appends (settle_appends r) (λ ps. bind_appends (fill_from_appends to 1 ps) (λ _. give_appends (pos (length ps))))))

  put_replaced_appends : (aim : Aim) (r : Replaced) → Appends out (put_replaced calls aim r)
  put_replaced_appends aim r =
      if_appends (r.count == 0) (give_appends (pos 0)) (bind_appends (settle_appends (within_limit r.text)) (λ s. bind_appends (write_at_appends aim (Text s)) (λ _. give_appends (pos r.count))))

  print_text_appends : (s : List ℕ) → Appends {S = S} out (print_text s)
  print_text_appends s = record { same = λ m. ap (λ o. gives tt (record m { output = o })) (append_assoc out m.output s) }

  print_line_appends : (ts : List (List ℕ)) → Appends out (print_line calls ts)
  print_line_appends ts = record { same = λ m. (print_text_appends (joined_by (text_at calls ofs_slot m) ts ++ text_at calls ors_slot m)).same m }

  module _ (eres : List (List ℕ)) (enter : ℕ → List Hold → Part S Val) (entered : (f : ℕ) (values : List Hold) → Appends out (enter f values)) where
    -- ---- expressions
    mutual
      eval_appends : (e : Expr) → Appends out (eval calls eres enter e)
      eval_appends (leaf l) = leaf_appends l
      eval_appends (numeric n) = bind_appends (number_of_appends n) (λ z. give_appends (Num z))
      eval_appends (test x) = bind_appends (truth_of_appends x) (λ h. give_appends (one_or_zero h))
      eval_appends (textual x) = bind_appends (textual_appends x) (λ s. give_appends (Text s))
      eval_appends (read p) = bind_appends (aim_appends p) (λ aim. read_at_appends aim)
      eval_appends (choice c a b) = decide_appends (truth_appends (eval_appends c)) (λ h. if_appends h (eval_appends a) (eval_appends b))
      eval_appends (assign p e) = bind_appends (aim_appends p) (λ aim. bind_appends (eval_appends e) (λ v. bind_appends (write_at_appends aim v) (λ _. give_appends v)))
      eval_appends (call f as') = bind_appends (arguments_appends as' []) (λ values. entered f values)

      number_of_appends : (n : Numeric) → Appends out (number_of calls eres enter n)
      number_of_appends (arithmetic op a b) = bind_appends (number_appends (eval_appends a)) (λ x. bind_appends (number_appends (eval_appends b)) (λ y. settle_appends (arith_by op x y)))
      number_of_appends (signed s a) = bind_appends (number_appends (eval_appends a)) (λ x. settle_appends (arith_by (op_of s) (Ok (pos 0)) x))
      number_of_appends (change op p e) = bind_appends (aim_appends p) (λ aim. bind_appends (number_appends (eval_appends e)) (λ y. bind_appends (change_at_appends op aim y) (λ z. give_appends z.1)))
      number_of_appends (step s p) = bind_appends (aim_appends p) (λ aim. bind_appends (change_at_appends (op_of (sign_of s)) aim (Ok (pos 1))) (λ z. give_appends (side_of s z)))
      number_of_appends (function f) = function_appends f
      number_of_appends (split e a by) = bind_appends (text_appends [] (eval_appends e)) (λ s. bind_appends (separator_appends by) (λ u. record { same = λ m. (split_into_appends (array_at m.frame a) (pieces_of_appends eres by u s)).same m }))
      number_of_appends (replace c p r to) =
          bind_appends (operand_appends p) (λ u. bind_appends (text_appends [] (eval_appends r)) (λ r.
          bind_appends (aim_appends to) (λ aim. bind_appends (text_appends [] (read_at_appends aim)) (λ s.
          bind_appends (settle_appends (replaced_by c (pattern_of eres p u) r s)) (λ x. put_replaced_appends aim x)))))
      number_of_appends (find e p) =
          bind_appends (text_appends [] (eval_appends e)) (λ s. bind_appends (operand_appends p) (λ u.
          bind_appends (settle_appends (found_by (pattern_of eres p u) s)) (λ found. record { same = λ m. refl })))

      function_appends : (f : NumericFunction) → Appends out (function_of calls eres enter f)
      function_appends (length_of e) = bind_appends (text_appends [] (eval_appends e)) (λ s. give_appends (pos (length s)))
      function_appends (index_of e f) = bind_appends (text_appends [] (eval_appends e)) (λ s. bind_appends (text_appends [] (eval_appends f)) (λ u. give_appends (pos (index s u))))
      function_appends (whole e) = bind_appends (number_appends (eval_appends e)) (λ x. settle_appends x)

      truth_of_appends : (x : Test) → Appends out (truth_of calls eres enter x)
      truth_of_appends (compare r a b) = bind_appends (eval_appends a) (λ x. bind_appends (eval_appends b) (λ y. settle_appends (related r x y)))
      truth_of_appends (both a b) = decide_appends (truth_appends (eval_appends a)) (λ h. if_appends h (bind_appends (truth_appends (eval_appends b)) (λ x. settle_appends x)) (give_appends false))
      truth_of_appends (either a b) = decide_appends (truth_appends (eval_appends a)) (λ h. if_appends h (give_appends true) (bind_appends (truth_appends (eval_appends b)) (λ x. settle_appends x)))
      truth_of_appends (negation a) = decide_appends (truth_appends (eval_appends a)) (λ h. give_appends (not h))
      truth_of_appends (matches holds e p) =
          bind_appends (text_appends [] (eval_appends e)) (λ s. bind_appends (operand_appends p) (λ u.
          bind_appends (settle_appends (found_by (pattern_of eres p u) s)) (λ found. give_appends (same_truth holds (is_some found)))))
      truth_of_appends (member a ks) = bind_appends (bind_appends (texts_appends ks []) (λ ts. key_of_appends ts)) (λ key. record { same = λ m. (holds_in_appends (array_at m.frame a) key).same m })

      textual_appends : (x : Textual) → Appends out (text_of_textual calls eres enter x)
      textual_appends (join es) = joined_appends es
      textual_appends (suffix e a) =
          bind_appends (text_appends [] (eval_appends e)) (λ s. bind_appends (number_appends (eval_appends a)) (λ x. bind_appends (settle_appends x) (λ from. give_appends (bytes_where (λ p. int_le from (pos p)) 1 s))))
      textual_appends (substring e a b) =
          bind_appends (text_appends [] (eval_appends e)) (λ s. bind_appends (number_appends (eval_appends a)) (λ x. bind_appends (number_appends (eval_appends b)) (λ y.
          bind_appends (settle_appends (both_of x y)) (λ z. give_appends (bytes_where (is_from z.0 z.1) 1 s)))))
      textual_appends (letters c e) = bind_appends (text_appends [] (eval_appends e)) (λ s. give_appends (letters_in c s))
      textual_appends (formatted f es) = bind_appends (format_appends f) (λ format. bind_appends (values_appends es []) (λ vs. settle_appends (formatted_text format vs)))

      joined_appends : (es : Exprs) → Appends out (joined_texts calls eres enter es)
      joined_appends none = give_appends []
      joined_appends (more e es) = bind_appends (text_appends [] (eval_appends e)) (λ s. suffixed_appends es s)

      suffixed_appends : (es : Exprs) (front : List ℕ) → Appends out (suffixed calls eres enter es front)
      suffixed_appends none front = give_appends front
      suffixed_appends (more e es) front = bind_appends (text_appends front (eval_appends e)) (λ s. bind_appends (settle_appends (within_limit s)) (λ u. suffixed_appends es u))

      texts_appends : (es : Exprs) (front : List (List ℕ)) → Appends out (texts_of calls eres enter es front)
      texts_appends none front = give_appends front
      texts_appends (more e es) front = bind_appends (text_appends [] (eval_appends e)) (λ s. texts_appends es (front ++ s ∷ []))

      values_appends : (es : Exprs) (front : List Val) → Appends out (values_of calls eres enter es front)
      values_appends none front = give_appends front
      values_appends (more e es) front = bind_appends (eval_appends e) (λ v. values_appends es (front ++ v ∷ []))

      arguments_appends : (xs : Arguments) (front : List Hold) → Appends out (arguments_of calls eres enter xs front)
      arguments_appends no_arguments front = give_appends front
      arguments_appends (more_arguments a as') front = bind_appends (argument_appends a) (λ h. arguments_appends as' (front ++ h ∷ []))

      argument_appends : (a : Argument) → Appends out (argument_of calls eres enter a)
      argument_appends (pass e) = bind_appends (eval_appends e) (λ v. give_appends (value v))
      argument_appends (pass_array a) = record { same = λ m. refl }

      aim_appends : (p : Place) → Appends out (aim_of calls eres enter p)
      aim_appends (to_global n) = give_appends (cell (world.scalar n))
      aim_appends (to_local i) = give_appends (parameter i)
      aim_appends (to_element a ks) = bind_appends (bind_appends (texts_appends ks []) (λ ts. key_of_appends ts)) (λ key. record { same = λ m. refl })
      aim_appends (to_field e) = bind_appends (number_appends (eval_appends e)) (λ x. bind_appends (settle_appends (index_by x)) (λ n. give_appends (places.field n)))

      operand_appends : (p : Pattern) → Appends out (operand_of calls eres enter p)
      operand_appends (fixed_pattern n) = give_appends []
      operand_appends (spelled_by e) = text_appends [] (eval_appends e)

      format_appends : (f : Format) → Appends out (format_of calls eres enter f)
      format_appends (fixed_format s) = give_appends s
      format_appends (code.format_of e) = text_appends [] (eval_appends e)

      separator_appends : (by : FieldsBy) → Appends out (separator_of calls eres enter by)
      separator_appends by_fs = give_appends []
      separator_appends (by_fixed n) = give_appends []
      separator_appends (by_value e) = text_appends [] (eval_appends e)

    -- ---- statements

    subscripts_appends : (ks : Exprs) → Appends out (subscripts calls eres enter ks)
    subscripts_appends ks = bind_appends (texts_appends ks []) (λ ts. key_of_appends ts)

    act_appends : (s : Simple) → Appends out (act calls eres enter s)
    act_appends (statement.drop e) = dropped_appends (eval_appends e)
    act_appends (set p e) = bind_appends (aim_appends p) (λ aim. bind_appends (eval_appends e) (λ v. write_at_appends aim v))
    act_appends (add s p e) = bind_appends (aim_appends p) (λ aim. bind_appends (number_appends (eval_appends e)) (λ y. add_at_appends s aim y))
    act_appends (count s p) = bind_appends (aim_appends p) (λ aim. add_at_appends (sign_of s) aim (Ok (pos 1)))
    act_appends (print calm es) = bind_appends (texts_appends es []) (λ ts. print_line_appends ts)
    act_appends (printf f calm es) =
        bind_appends (format_appends f) (λ format. bind_appends (values_appends es []) (λ vs. bind_appends (settle_appends (formatted_text format vs)) (λ s. print_text_appends s)))
    act_appends (delete a ks) = bind_appends (subscripts_appends ks) (λ key. record { same = λ m. (remove_in_appends (array_at m.frame a) key).same m })
    act_appends (clear a) = record { same = λ m. (clear_of_appends (array_at m.frame a)).same m }

    leaves_appends : (l : Leave) → Appends out (leaves calls eres enter l)
    leaves_appends break = record { same = λ m. refl }
    leaves_appends continue = record { same = λ m. refl }
    leaves_appends next_record = record { same = λ m. refl }
    leaves_appends next_file = record { same = λ m. refl }
    leaves_appends (exit None) = record { same = λ m. refl }
    leaves_appends (exit (Some e)) = bind_appends (number_appends (eval_appends e)) (λ x. bind_appends (settle_appends (status_by x)) (λ n. halt_appends (halt.exit n)))
    leaves_appends (return None) = record { same = λ m. refl }
    leaves_appends (return (Some e)) = bind_appends (eval_appends e) (λ v. give_appends (by_return v))

    act_or_none_appends : (s : Option Simple) → Appends out (act_or_none calls eres enter s)
    act_or_none_appends None = give_appends (tt {0})
    act_or_none_appends (Some s) = act_appends s

    test_or_true_appends : (e : Option Expr) → Appends out (test_or_true calls eres enter e)
    test_or_true_appends None = give_appends (Ok true)
    test_or_true_appends (Some e) = truth_appends (eval_appends e)

    and_then_appends : {rest : Part S Way} → Appends out rest → (way : Way) → Appends out (and_then rest way)
    and_then_appends h on = h
    and_then_appends h by_break = give_appends by_break
    and_then_appends h by_continue = give_appends by_continue
    and_then_appends h (by_return v) = give_appends (by_return v)

    after_left_appends : {rest : Part S Way} → Appends out rest → (w : Option Way) → Appends out (after_left rest w)
    after_left_appends h None = h
    after_left_appends h (Some way) = give_appends way

    after_turn_appends : {rest : Part S Way} → Appends out rest → (way : Way) → Appends out (after_turn rest way)
    after_turn_appends h way = after_left_appends h (left_by way)

    turns_appends : (n : ℕ) {check : Part S (Result Bool Fault)} {body : Part S Way} {last : Part S (Unit {0})} → Appends out check → Appends out body → Appends out last → Appends out (turns n check body last)
    turns_appends zero h k l = halt_appends (halt.fault fault.Steps)
    turns_appends (suc n) h k l =
        bind_appends tick_appends (λ _. decide_appends h (λ b. if_appends b (bind_appends k (λ way. after_turn_appends (bind_appends l (λ _. turns_appends n h k l)) way)) (give_appends on)))

    loop_appends : {check : Part S (Result Bool Fault)} {body : Part S Way} {last : Part S (Unit {0})} → Appends out check → Appends out body → Appends out last → Appends out (while_loop check body last)
    loop_appends h k l = record { same = λ m. (turns_appends m.left h k l).same m }

    visit_appends : (keys : List (List ℕ)) (aim : Aim) {body : Part S Way} → Appends out body → Appends out (visit_keys calls keys aim body)
    visit_appends [] aim k = give_appends on
    visit_appends (key ∷ keys) aim k =
        bind_appends tick_appends (λ _. bind_appends (write_at_appends aim (Text key)) (λ _. bind_appends k (λ way. after_turn_appends (visit_appends keys aim k) way)))

    for_keys_appends : (x : Variable) (a : Array) {body : Part S Way} → Appends out body → Appends out (for_keys calls x a body)
    for_keys_appends x a k = record { same = λ m. (bind_appends (keys_of_appends (array_at m.frame a)) (λ keys. visit_appends keys (variable_aim x) k)).same m }

    mutual
      exec_appends : (s : Stmt) → Appends out (exec calls eres enter s)
      exec_appends (simple s) = bind_appends (act_appends s) (λ _. give_appends on)
      exec_appends (leave l) = leaves_appends l
      exec_appends (when c a) = decide_appends (truth_appends (eval_appends c)) (λ h. if_appends h (execs_appends a) (give_appends on))
      exec_appends (choose c a b) = decide_appends (truth_appends (eval_appends c)) (λ h. if_appends h (execs_appends a) (execs_appends b))
      exec_appends (repeat c a) = loop_appends (truth_appends (eval_appends c)) (execs_appends a) (give_appends (tt {0}))
      exec_appends (do_while a c) = bind_appends (execs_appends a) (λ way. after_turn_appends (loop_appends (truth_appends (eval_appends c)) (execs_appends a) (give_appends (tt {0}))) way)
      exec_appends (loop head a) = bind_appends (act_or_none_appends head.first) (λ _. loop_appends (test_or_true_appends head.condition) (execs_appends a) (act_or_none_appends head.last))
      exec_appends (walk x a body) = for_keys_appends x a (execs_appends body)

      execs_appends : (ss : Stmts) → Appends out (execs calls eres enter ss)
      execs_appends done = give_appends on
      execs_appends (next s rest) = bind_appends tick_appends (λ _. bind_appends (exec_appends s) (λ way. and_then_appends (execs_appends rest) way))

  -- ---- calls

  module _ (eres : List (List ℕ)) where
    function_body_appends : (kinds : List ParameterKind) {body : Part S Way} → Appends out body → (values : List Hold) → Appends out (run_function calls eres kinds body values)
    function_body_appends kinds {body = body} h values = record {
      same = λ m.
          let e = entry_of kinds values m.arrays in
          let back : Way → Part S Val = λ way after. gives (value_of_way way) (record after { frame = m.frame; arrays = take (length m.arrays) after.arrays }) in
          (bind_appends {part = body} {k = back} h (λ way. record { same = λ n. refl })).same (record m { frame = e.frame; arrays = e.arrays });
    }

    function_at_appends : (o : Option Function) (run : Stmts → Part S Way) → ((body : Stmts) → Appends out (run body)) → (values : List Hold) → Appends out (run_function_at calls eres o run values)
    function_at_appends None run h values = record { same = λ m. refl }
    function_at_appends (Some f) run h values = function_body_appends f.kinds (h f.body) values

    call_appends : (functions : List Function) (depth f : ℕ) (values : List Hold) → Appends out (call_at calls eres functions depth f values)
    unfolding call_at
    call_appends functions zero f values = bind_appends tick_appends (λ _. halt_appends (halt.fault fault.Depth))
    call_appends functions (suc depth) f values =
        bind_appends tick_appends (λ _. function_at_appends (slice_get functions f) (execs calls eres (call_at calls eres functions depth)) (λ body. execs_appends eres (call_at calls eres functions depth) (call_appends functions depth) body) values)

  -- ---- records

  module _ (eres : List (List ℕ)) (functions : List Function) where
    holds_appends : (e : Expr) → Appends out (holds calls eres functions e)
    holds_appends e = bind_appends (truth_appends (eval_appends eres (call_at calls eres functions greatest_calls) (call_appends eres functions greatest_calls) e)) (λ r. settle_appends r)

    pub does_appends : (body : Stmts) → Appends out (does calls eres functions body)
    does_appends body = dropped_appends (execs_appends eres (call_at calls eres functions greatest_calls) (call_appends eres functions greatest_calls) body)

    after_read_appends : (f : Option Fault) → Appends {S = S} out (after_read f)
    after_read_appends None = record { same = λ m. refl }
    after_read_appends (Some f) = record { same = λ m. refl }

    reads_appends : (i : Item) → Appends out (reads calls eres functions i)
    reads_appends i = record {
      same = λ m.
          let r = read_record (text_at calls fs_slot m) (is_paragraph m.state) i.bytes in
          (after_read_appends r.1).same (record m { state = record m.state { line = r.0; nr = suc m.state.nr; fnr = i.fnr; name = Maybe i.name } });
    }

    begins_if : (b : Bool) (p : Expr) → Appends out (λ m. if b then give true m else holds calls eres functions p m)
    begins_if true p = give_appends true
    begins_if false p = holds_appends p

    begins_appends : (n : ℕ) (p : Expr) → Appends out (begins calls eres functions n p)
    begins_appends n p = record { same = λ m. (begins_if (is_inside n m.state) p).same m }

    in_range_appends : (n : ℕ) (q : Expr) (b : Bool) → Appends out (in_range calls eres functions n q b)
    in_range_appends n q true = bind_appends (holds_appends q) (λ ends. record { same = λ m. refl })
    in_range_appends n q false = give_appends false

    selects_appends : (n : ℕ) (s : Selector) → Appends out (selects calls eres functions n s)
    selects_appends n always = give_appends true
    selects_appends n (matching e) = holds_appends e
    selects_appends n (between p q) = bind_appends (begins_appends n p) (λ b. in_range_appends n q b)

    rule_appends : (n : ℕ) (r : Rule) → Appends out (does_rule calls eres functions n r)
    rule_appends n r = bind_appends (selects_appends n r.selector) (λ h. if_appends h (does_appends r.body) (give_appends (tt {0})))

    rules_appends : (n : ℕ) (rules : List Rule) → Appends out (rules_from calls eres functions n rules)
    rules_appends n [] = give_appends (tt {0})
    rules_appends n (r ∷ rs) = bind_appends (rule_appends n r) (λ _. rules_appends (suc n) rs)

    record_run_appends : (rules : List Rule) (i : Item) → Appends out (one_record calls eres functions rules i)
    record_run_appends rules i = bind_appends (reads_appends i) (λ _. rules_appends 0 rules)

    actions_appends : (list : List Stmts) → Appends out (actions calls eres functions list)
    actions_appends [] = give_appends (tt {0})
    actions_appends (a ∷ rest) = bind_appends (does_appends a) (λ _. actions_appends rest)

-- ---- ends

module _ {S : Type 0} (out : List ℕ) where
  halt_end_appends : (h : Halt) (s : S) (state : RecordState) (o : List ℕ) → end_of_halt h s state (out ++ o) ≡ with_output_before out (end_of_halt h s state o)
  halt_end_appends (halt.fault f) s state o = refl
  halt_end_appends halt.clash s state o = refl
  halt_end_appends halt.next s state o = refl
  halt_end_appends halt.next_file s state o = refl
  halt_end_appends (halt.exit n) s state o = refl

  end_appends : {X : Type 0} (o : Outcome S X) → end_of (later_outcome out o) ≡ with_output_before out (end_of o)
  end_appends (gives x m) = refl
  end_appends (halts h s state o) = halt_end_appends h s state o

  pub part_appends : {X : Type 0} {part : Part S X} → Appends out part → (budget : ℕ) (e : End S) → let f = with_output_before out e in run_part part budget f.world f.state f.output ≡ with_output_before out (run_part part budget e.world e.state e.output)
  part_appends {part = part} h budget e =
      let m : Moment S = record { world = e.world; state = e.state; frame = []; arrays = []; output = e.output; left = budget } in
      ap end_of (h.same m) ∙ end_appends (part m)

  after_appends : (go : Option ℕ → End S → End S) (file : ℕ) (left : Left) (e : End S) → ((skip : Option ℕ) → go skip (with_output_before out e) ≡ with_output_before out (go skip e)) → after_leaving go file left (with_output_before out e) ≡ with_output_before out (after_leaving go file left e)
  after_appends go file through e h = h None
  after_appends go file records.next_file e h = h (Some file)
  after_appends go file (records.exit n) e h = refl
  after_appends go file (records.fault f) e h = refl
  after_appends go file clash e h = refl

  skip_appends : (b : Bool) (e f e' f' : End S) → e ≡ with_output_before out e' → f ≡ with_output_before out f' → (if b then e else f) ≡ with_output_before out (if b then e' else f')
  skip_appends true e f e' f' h k = h
  skip_appends false e f e' f' h k = k

  at_end_appends : (left : Left) (e : End S) → at_end left (with_output_before out e) ≡ finish_with_output_before out (at_end left e)
  at_end_appends through e = refl
  at_end_appends records.next_file e = refl
  at_end_appends (records.exit n) e = refl
  at_end_appends (records.fault f) e = refl
  at_end_appends clash e = refl

  module _ (calls : Calls S) (eres : List (List ℕ)) (program : Code) (budget : ℕ) where
    pub records_append : (skip : Option ℕ) (items : List Item) (e : End S) → records_from calls eres program budget skip (with_output_before out e) items ≡ with_output_before out (records_from calls eres program budget skip e items)
    records_append skip [] e = refl
    records_append skip (i ∷ is') e =
        let one : End S → End S = λ x. run_part (one_record calls eres program.functions program.rules i) budget x.world x.state x.output in
        let go : Option ℕ → End S → End S = λ s x. records_from calls eres program budget s x is' in
        let f = with_output_before out e in
        skip_appends (is_skipped skip i)
        (records_from calls eres program budget skip f is') (after_leaving go i.file (one f).left (one f))
        (records_from calls eres program budget skip e is') (after_leaving go i.file (one e).left (one e))
        (records_append skip is' e)
        (ap (λ x. after_leaving go i.file x.left x) (part_appends (record_run_appends calls eres program.functions program.rules i) budget e)
        ∙ after_appends go i.file (one e).left (one e) (λ s. records_append s is' (one e)))

    ends_append : (e : End S) → ends_from calls eres program budget (with_output_before out e) ≡ finish_with_output_before out (ends_from calls eres program budget e)
    ends_append e =
        let r = run_part (actions calls eres program.functions program.ends) budget e.world e.state e.output in
        ap (λ x. at_end x.left x) (part_appends (actions_appends calls eres program.functions program.ends) budget e)
        ∙ at_end_appends r.left r

    pub after_records_append : (left : Left) (e : End S) → after_records calls eres program budget left (with_output_before out e) ≡ finish_with_output_before out (after_records calls eres program budget left e)
    after_records_append through e = ends_append e
    after_records_append records.next_file e = ends_append e
    after_records_append (records.exit n) e = ends_append e
    after_records_append (records.fault f) e = refl
    after_records_append clash e = refl
