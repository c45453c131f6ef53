-- What a program means, over any world (POSIX.1-2017, awk, "Expressions in awk", "Actions" and "Functions").
-- Operands are evaluated from left to right, and then converted, the left one first.
use Rattle.std.specs.Prelude.{ℕ, ℤ, zero, suc, pos, negsuc, ◌+◌, ◌-◌, ◌==◌, Bool, true, false, not, if◌then◌else◌, nat_lt, List, [], ◌∷◌, ◌++◌, length, take, slice_get, Option, Some, None, Result, Ok, Err, is_some, int_le}
use Rattle.pawk_value.specs.declared.faults.Fault.{Fault}
use Rattle.pawk_value.specs.declared.faults.Fault.TheVariants as fault
use Rattle.pawk_value.specs.Value.{Val, Uninit, Num, Text, Maybe}
use Rattle.pawk_ere_syntax.specs.Pattern.{Pattern as Regular}
use Rattle.pawk_record.specs.Records.{field_at}
use Rattle.pawk_world.specs.Halts as halt
use Rattle.pawk_world.specs.Sums.{arith_by, op_of}
use Rattle.pawk_world.specs.Worlds.{Calls}
use Rattle.pawk_world.specs.Worlds as world
use Rattle.pawk_store.specs.RecordStates.{special_value}
use Rattle.pawk_store.specs.Slots.{fs_slot, ofs_slot, ors_slot, subsep_slot}
use Rattle.pawk_code.specs.declared.name.Array.{Array}
use Rattle.pawk_code.specs.declared.name.Variable.{Variable}
use Rattle.pawk_code.specs.declared.program.ParameterKind.{ParameterKind}
use Rattle.pawk_code.specs.Expressions.{Expr, leaf, numeric, test, textual, read, choice, assign, call, Leaf, number, text, global, local, Exprs, none, more, Place, to_global, to_local, to_element, to_field, Numeric, arithmetic, signed, change, step, function, split, replace, find, NumericFunction, length_of, index_of, whole, Test, compare, both, either, negation, matches, member, Textual, join, suffix, substring, letters, formatted, Pattern, fixed_pattern, spelled_by, FieldsBy, by_fs, by_fixed, by_value, Format, fixed_format, Argument, pass, pass_array, Arguments, no_arguments, more_arguments}
use Rattle.pawk_code.specs.Expressions as code
use Rattle.pawk_code.specs.Statements.{Simple, drop, set, add, count, print, printf, delete, clear, Leave, break, continue, next_record, next_file, exit, return, Stmt, simple, leave, when, choose, repeat, do_while, loop, walk, Stmts, done, next}
use Rattle.pawk_code.specs.Programs.{Function}
use Rattle.pawk_store.specs.Parts.{Hold, value, Moment, gives, Part, give, halt_with, settle, then_do, bind, as_number, as_truth, as_text, tick, local_at, entry_of}
use Rattle.pawk_store.specs.Places.{Aim, parameter, cell, array_at, element_of, variable_aim, index_by, text_at, read_at, write_at, change_at, add_at, holds_in, remove_in, clear_of, keys_of}
use Rattle.pawk_store.specs.Places as places
use Rattle.pawk_store.specs.Builtins.{within_limit, joined_by, index, bytes_where, is_from, letters_in, Replaced, replaced_by, found_by, pattern_of_text, fixed_at, pieces_by, pieces_between, sign_of, side_of, related, same_truth, formatted_text, decimal}

-- how a statement leaves
pub data Way : Type 0 where
  on : Way
  by_break : Way
  by_continue : Way
  by_return : Val → Way

abbrev pub value_of_way : Way → Val
value_of_way on = Uninit
value_of_way by_break = Uninit
value_of_way by_continue = Uninit
value_of_way (by_return v) = v

-- how a loop is left by its body, if it is left
abbrev pub left_by : Way → Option Way
left_by on = None
left_by by_break = Some on
left_by by_continue = None
left_by (by_return v) = Some (by_return v)

abbrev pub one_or_zero : Bool → Val
one_or_zero true = Num (pos 1)
one_or_zero false = Num (pos 0)

-- the status of exit
abbrev pub status_in : ℤ → Result ℕ Fault
status_in (pos n) = if nat_lt n 256 then Ok n else Err fault.Status
status_in (negsuc n) = Err fault.Status

abbrev pub status_by : Result ℤ Fault → Result ℕ Fault
status_by (Ok z) = status_in z
status_by (Err f) = Err f

-- the first of two conversions that faults reports its fault
abbrev pub both_of : {X Y : Type 0} → Result X Fault → Result Y Fault → Result (X × Y) Fault
both_of (Err f) y = Err f
both_of (Ok x) (Err f) = Err f
both_of (Ok x) (Ok y) = Ok (x, y)

-- what `match` sets: where the match begins, counted from 1, and how long it is
abbrev pub place_of_match : Option (ℕ × ℕ) → ℤ × ℤ
place_of_match None = (pos 0, negsuc 0)
place_of_match (Some m) = (pos (m.0 + 1), pos (m.1 - m.0))

module _ {S : Type 0} where
  -- goes on by a truth; a fault of its conversion comes now
  abbrev pub decide : {X : Type 0} → Part S (Result Bool Fault) → (Bool → Part S X) → Part S X
  decide part go = bind part (λ t. bind (settle t) go)

  -- what follows a statement of a list, and a turn of a loop
  abbrev pub and_then : Part S Way → Way → Part S Way
  and_then rest on = rest
  and_then rest by_break = give by_break
  and_then rest by_continue = give by_continue
  and_then rest (by_return v) = give (by_return v)

  abbrev pub after_left : Part S Way → Option Way → Part S Way
  after_left rest None = rest
  after_left rest (Some way) = give way

  abbrev pub after_turn : Part S Way → Way → Part S Way
  after_turn rest way = after_left rest (left_by way)

  -- at most n tests of a loop, which the steps that are left allow; `last` follows each turn
  abbrev pub turns : ℕ → Part S (Result Bool Fault) → Part S Way → Part S (Unit {0}) → Part S Way
  turns zero check body last = halt_with (halt.fault fault.Steps)
  turns (suc n) check body last =
      bind tick (λ _. decide check (λ h.
      if h then bind body (after_turn (bind last (λ _. turns n check body last))) else give on))

  abbrev pub while_loop : Part S (Result Bool Fault) → Part S Way → Part S (Unit {0}) → Part S Way
  while_loop check body last m = turns m.left check body last m

-- the expression that a pattern is, where its operand has this text
abbrev pub pattern_of : List (List ℕ) → Pattern → List ℕ → Result Regular Fault
pattern_of eres (fixed_pattern n) t = fixed_at eres n
pattern_of eres (spelled_by e) t = pattern_of_text t

module _ {S : Type 0} where
  abbrev pub print_text : List ℕ → Part S (Unit {0})
  print_text s m = gives tt (record m { output = m.output ++ s })

  abbrev pub set_match : ℤ × ℤ → Part S ℤ
  set_match p m = gives p.0 (record m { state = record m.state { rstart = p.0; rlength = p.1 } })

module _ {S : Type 0} (calls : Calls S) where
  abbrev pub leaf_value : Leaf → Moment S → Val
  leaf_value (number z) m = Num z
  leaf_value (text t) m = Text t
  leaf_value (global n) m = calls.look n m.world
  leaf_value (local i) m = local_at m.frame i
  leaf_value (code.special x) m = special_value x m.state
  leaf_value (code.field n) m = field_at m.state.line n

  abbrev pub value_of_leaf : Leaf → Part S Val
  value_of_leaf l m = give (leaf_value l m) m

  -- texts with OFS between them and ORS after them, as these are then
  abbrev pub print_line : List (List ℕ) → Part S (Unit {0})
  print_line ts m = print_text (joined_by (text_at calls ofs_slot m) ts ++ text_at calls ors_slot m) m

  -- subscripts joined by SUBSEP as it is then; one is no joining
  abbrev pub key_of : List (List ℕ) → Part S (List ℕ)
  key_of [] m = give [] m
  key_of (k ∷ []) m = give k m
  key_of (k ∷ l ∷ ks) m = settle (within_limit (joined_by (text_at calls subsep_slot m) (k ∷ l ∷ ks))) m

  -- pieces at the keys 1, 2, .. from this number on
  abbrev pub fill_from : Hold → ℕ → List (List ℕ) → Part S (Unit {0})
  fill_from to n [] m = give tt m
  fill_from to n (piece ∷ pieces) m =
      bind (write_at calls (element_of to (decimal n)) (Maybe piece)) (λ _. fill_from to (suc n) pieces) m

  -- the pieces of a text, where the separator's operand has the text t: FS is read now
  abbrev pub pieces_of : List (List ℕ) → FieldsBy → List ℕ → List ℕ → Part S (Result (List (List ℕ)) Fault)
  pieces_of eres by_fs t s m = give (pieces_by (text_at calls fs_slot m) s) m
  pieces_of eres (by_fixed n) t s m = give (pieces_between (fixed_at eres n) s) m
  pieces_of eres (by_value e) t s m = give (pieces_by t s) m

  -- the array is emptied, the text split, and its pieces put there; how many they are
  abbrev pub split_into : Hold → Part S (Result (List (List ℕ)) Fault) → Part S ℤ
  split_into to pieces =
      bind (clear_of calls to) (λ _. bind pieces (λ r. bind (settle r) (λ ps.
      bind (fill_from to 1 ps) (λ _. give (pos (length ps))))))

  -- a place gets a text with its replacements, if there are some; how many they are
  abbrev pub put_replaced : Aim → Replaced → Part S ℤ
  put_replaced aim r =
      if r.count == 0 then give (pos 0)
      else bind (settle (within_limit r.text)) (λ t. bind (write_at calls aim (Text t)) (λ _. give (pos r.count)))

  -- a body for each key, which is a text
  abbrev pub visit_keys : List (List ℕ) → Aim → Part S Way → Part S Way
  visit_keys [] aim body = give on
  visit_keys (key ∷ keys) aim body =
      bind tick (λ _. bind (write_at calls aim (Text key)) (λ _. bind body (after_turn (visit_keys keys aim body))))

  -- a loop over the keys that are there at its begin
  abbrev pub for_keys : Variable → Array → Part S Way → Part S Way
  for_keys k a body m = bind (keys_of calls (array_at m.frame a)) (λ keys. visit_keys keys (variable_aim k) body) m

module _ {S : Type 0} (calls : Calls S) (eres : List (List ℕ)) where
  module _ (enter : ℕ → List Hold → Part S Val) where
    abbrev mutual
      -- the value of an expression; `enter` is the call of a function
      pub eval : Expr → Part S Val
      eval (leaf l) = value_of_leaf calls l
      eval (numeric n) = bind (number_of n) (λ z. give (Num z))
      eval (test t) = bind (truth_of t) (λ h. give (one_or_zero h))
      eval (textual t) = bind (text_of_textual t) (λ s. give (Text s))
      eval (read p) = bind (aim_of p) (read_at calls)
      eval (choice c a b) = decide (as_truth (eval c)) (λ h. if h then eval a else eval b)
      eval (assign p e) = bind (aim_of p) (λ aim. bind (eval e) (λ v. bind (write_at calls aim v) (λ _. give v)))
      eval (call f as') = bind (arguments_of as' []) (enter f)

      pub number_of : Numeric → Part S ℤ
      number_of (arithmetic op a b) =
          bind (as_number (eval a)) (λ x. bind (as_number (eval b)) (λ y. settle (arith_by op x y)))
      number_of (signed s a) = bind (as_number (eval a)) (λ x. settle (arith_by (op_of s) (Ok (pos 0)) x))
      number_of (change op p e) =
          bind (aim_of p) (λ aim. bind (as_number (eval e)) (λ y. bind (change_at calls op aim y) (λ z. give z.1)))
      number_of (step s p) =
          bind (aim_of p) (λ aim. bind (change_at calls (op_of (sign_of s)) aim (Ok (pos 1))) (λ z. give (side_of s z)))
      number_of (function f) = function_of f
      number_of (split e a by) =
          bind (as_text [] (eval e)) (λ s. bind (separator_of by) (λ t m.
          split_into calls (array_at m.frame a) (pieces_of calls eres by t s) m))
      number_of (replace c p r to) =
          bind (operand_of p) (λ t. bind (as_text [] (eval r)) (λ r.
          bind (aim_of to) (λ aim. bind (as_text [] (read_at calls aim)) (λ s.
          bind (settle (replaced_by c (pattern_of eres p t) r s)) (put_replaced calls aim)))))
      number_of (find e p) =
          bind (as_text [] (eval e)) (λ s. bind (operand_of p) (λ t.
          bind (settle (found_by (pattern_of eres p t) s)) (λ found. set_match (place_of_match found))))

      pub function_of : NumericFunction → Part S ℤ
      function_of (length_of e) = bind (as_text [] (eval e)) (λ s. give (pos (length s)))
      function_of (index_of e f) =
          bind (as_text [] (eval e)) (λ s. bind (as_text [] (eval f)) (λ t. give (pos (index s t))))
      function_of (whole e) = bind (as_number (eval e)) settle

      pub truth_of : Test → Part S Bool
      truth_of (compare r a b) = bind (eval a) (λ x. bind (eval b) (λ y. settle (related r x y)))
      truth_of (both a b) = decide (as_truth (eval a)) (λ h. if h then bind (as_truth (eval b)) settle else give false)
      truth_of (either a b) = decide (as_truth (eval a)) (λ h. if h then give true else bind (as_truth (eval b)) settle)
      truth_of (negation a) = decide (as_truth (eval a)) (λ h. give (not h))
      truth_of (matches holds e p) =
          bind (as_text [] (eval e)) (λ s. bind (operand_of p) (λ t.
          bind (settle (found_by (pattern_of eres p t) s)) (λ found. give (same_truth holds (is_some found)))))
      truth_of (member a ks) = bind (bind (texts_of ks []) (key_of calls)) (λ key m. holds_in calls (array_at m.frame a) key m)

      pub text_of_textual : Textual → Part S (List ℕ)
      text_of_textual (join es) = joined_texts es
      text_of_textual (suffix e a) =
          bind (as_text [] (eval e)) (λ s. bind (as_number (eval a)) (λ x. bind (settle x) (λ from.
          give (bytes_where (λ p. int_le from (pos p)) 1 s))))
      text_of_textual (substring e a b) =
          bind (as_text [] (eval e)) (λ s. bind (as_number (eval a)) (λ x. bind (as_number (eval b)) (λ y.
          bind (settle (both_of x y)) (λ z. give (bytes_where (is_from z.0 z.1) 1 s)))))
      text_of_textual (letters c e) = bind (as_text [] (eval e)) (λ s. give (letters_in c s))
      text_of_textual (formatted f es) =
          bind (format_of f) (λ format. bind (values_of es []) (λ vs. settle (formatted_text format vs)))

      -- concatenation: the text so far is within the limit before the next operand is evaluated
      pub joined_texts : Exprs → Part S (List ℕ)
      joined_texts none = give []
      joined_texts (more e es) = bind (as_text [] (eval e)) (suffixed es)

      pub suffixed : Exprs → List ℕ → Part S (List ℕ)
      suffixed none front = give front
      suffixed (more e es) front =
          bind (as_text front (eval e)) (λ s. bind (settle (within_limit s)) (suffixed es))

      pub texts_of : Exprs → List (List ℕ) → Part S (List (List ℕ))
      texts_of none front = give front
      texts_of (more e es) front = bind (as_text [] (eval e)) (λ s. texts_of es (front ++ s ∷ []))

      pub values_of : Exprs → List Val → Part S (List Val)
      values_of none front = give front
      values_of (more e es) front = bind (eval e) (λ v. values_of es (front ++ v ∷ []))

      pub arguments_of : Arguments → List Hold → Part S (List Hold)
      arguments_of no_arguments front = give front
      arguments_of (more_arguments a as') front = bind (argument_of a) (λ h. arguments_of as' (front ++ h ∷ []))

      pub argument_of : Argument → Part S Hold
      argument_of (pass e) = bind (eval e) (λ v. give (value v))
      argument_of (pass_array a) = λ m. give (array_at m.frame a) m

      -- where a place is
      pub aim_of : Place → Part S Aim
      aim_of (to_global n) = give (cell (world.scalar n))
      aim_of (to_local i) = give (parameter i)
      aim_of (to_element a ks) = bind (bind (texts_of ks []) (key_of calls)) (λ key m. give (element_of (array_at m.frame a) key) m)
      aim_of (to_field e) = bind (as_number (eval e)) (λ x. bind (settle (index_by x)) (λ n. give (places.field n)))

      -- the text that is to be read as an expression, where it is no expression between slashes
      pub operand_of : Pattern → Part S (List ℕ)
      operand_of (fixed_pattern n) = give []
      operand_of (spelled_by e) = as_text [] (eval e)

      pub format_of : Format → Part S (List ℕ)
      format_of (fixed_format t) = give t
      format_of (code.format_of e) = as_text [] (eval e)

      -- the text by which a text will be split, where it is a value's
      pub separator_of : FieldsBy → Part S (List ℕ)
      separator_of by_fs = give []
      separator_of (by_fixed n) = give []
      separator_of (by_value e) = as_text [] (eval e)

    -- the key that subscripts spell
    abbrev pub subscripts : Exprs → Part S (List ℕ)
    subscripts ks = bind (texts_of ks []) (key_of calls)

    -- a statement that leaves nothing and has no body
    abbrev pub act : Simple → Part S (Unit {0})
    act (drop e) = bind (eval e) (λ _. give tt)
    act (set p e) = bind (aim_of p) (λ aim. bind (eval e) (write_at calls aim))
    act (add s p e) = bind (aim_of p) (λ aim. bind (as_number (eval e)) (add_at calls s aim))
    act (count s p) = bind (aim_of p) (λ aim. add_at calls (sign_of s) aim (Ok (pos 1)))
    act (print calm es) = bind (texts_of es []) (print_line calls)
    act (printf f calm es) =
        bind (format_of f) (λ format. bind (values_of es []) (λ vs. bind (settle (formatted_text format vs)) print_text))
    act (delete a ks) = bind (subscripts ks) (λ key m. remove_in calls (array_at m.frame a) key m)
    act (clear a) = λ m. clear_of calls (array_at m.frame a) m

    abbrev pub leaves : Leave → Part S Way
    leaves break = give by_break
    leaves continue = give by_continue
    leaves next_record = halt_with halt.next
    leaves next_file = halt_with halt.next_file
    leaves (exit None) = λ m. halt_with (halt.exit m.state.status) m
    leaves (exit (Some e)) = bind (as_number (eval e)) (λ x. bind (settle (status_by x)) (λ n. halt_with (halt.exit n)))
    leaves (return None) = give (by_return Uninit)
    leaves (return (Some e)) = bind (eval e) (λ v. give (by_return v))

    abbrev pub act_or_none : Option Simple → Part S (Unit {0})
    act_or_none None = give tt
    act_or_none (Some s) = act s

    -- a missing test holds
    abbrev pub test_or_true : Option Expr → Part S (Result Bool Fault)
    test_or_true None = give (Ok true)
    test_or_true (Some e) = as_truth (eval e)

    abbrev mutual
      -- a statement, after its step
      pub exec : Stmt → Part S Way
      exec (simple s) = bind (act s) (λ _. give on)
      exec (leave l) = leaves l
      exec (when c a) = decide (as_truth (eval c)) (λ h. if h then execs a else give on)
      exec (choose c a b) = decide (as_truth (eval c)) (λ h. if h then execs a else execs b)
      exec (repeat c a) = while_loop (as_truth (eval c)) (execs a) (give tt)
      exec (do_while a c) = bind (execs a) (after_turn (while_loop (as_truth (eval c)) (execs a) (give tt)))
      exec (loop head a) =
          bind (act_or_none head.first) (λ _. while_loop (test_or_true head.condition) (execs a) (act_or_none head.last))
      exec (walk k a body) = for_keys calls k a (execs body)

      -- statements in turn, a step at the begin of each
      pub execs : Stmts → Part S Way
      execs done = give on
      execs (next s rest) = bind tick (λ _. bind (exec s) (and_then (execs rest)))

  -- the body of a function; then the caller's parameters and local arrays are put back
  abbrev pub run_function : List ParameterKind → Part S Way → List Hold → Part S Val
  run_function kinds body arguments m =
      let e = entry_of kinds arguments m.arrays in
      then_do (body (record m { frame = e.frame; arrays = e.arrays }))
      (λ way after. gives (value_of_way way) (record after { frame = m.frame; arrays = take (length m.arrays) after.arrays }))

  -- the function of a slot, if there is one
  abbrev pub run_function_at : Option Function → (Stmts → Part S Way) → List Hold → Part S Val
  run_function_at None body arguments = give Uninit
  run_function_at (Some f) body arguments = run_function f.kinds (body f.body) arguments

  -- a call, which is a step, with a bound on how many more may be nested
  unfoldable pub call_at : List Function → ℕ → ℕ → List Hold → Part S Val
  call_at functions zero f arguments = bind tick (λ _. halt_with (halt.fault fault.Depth))
  call_at functions (suc depth) f arguments =
      bind tick (λ _. run_function_at (slice_get functions f) (execs (call_at functions depth)) arguments)
