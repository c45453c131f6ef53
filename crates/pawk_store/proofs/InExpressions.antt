-- Expressions that ask what is permitted go in step.
use Rattle.std.proofs.Common.{◌≡◌, ℕ, ℤ, pos, zero, suc, List, [], ◌∷◌, ◌++◌, refl, subst, true, false, not, Result, Ok, length}
use Rattle.std.specs.Prelude.{◌==◌, slice_set, is_some, int_le}
use Rattle.pawk_value.specs.declared.faults.Fault.{Fault}
use Rattle.pawk_value.specs.Value.{Val, Uninit, Num, Text, Maybe}
use Rattle.pawk_value.specs.Conversion.{text_of}
use Rattle.pawk_value.specs.declared.arithmetic.Op.{Op}
use Rattle.pawk_record.specs.Records.{field_at, with_field, with_text}
use Rattle.pawk_array.specs.Entries.{found, put, without, keys}
use Rattle.pawk_world.specs.Sums.{arith_by, op_of}
use Rattle.pawk_world.specs.Worlds as world
use Rattle.pawk_store.specs.RecordStates.{is_paragraph, special_value}
use Rattle.pawk_store.specs.Slots.{fs_slot, ofs_slot, subsep_slot}
use Rattle.pawk_code.specs.declared.name.Array.{Array}
use Rattle.pawk_code.specs.declared.name.Variable.{Variable}
use Rattle.pawk_code.specs.declared.name.Variable.TheVariants as variable
use Rattle.pawk_code.specs.declared.word.Sign.{Sign}
use Rattle.pawk_code.specs.Expressions.{Expr, leaf, numeric, test, textual, read, choice, assign, call, Leaf, number, text, global, local, Exprs, none, more, Place, to_global, to_local, to_element, to_field, Numeric, arithmetic, signed, change, step, function, split, replace, find, NumericFunction, length_of, index_of, whole, Test, compare, both, either, negation, matches, member, Textual, join, suffix, substring, letters, formatted, Pattern, fixed_pattern, spelled_by, FieldsBy, by_fs, by_fixed, by_value, Format, fixed_format, Argument, pass, pass_array, Arguments, no_arguments, more_arguments}
use Rattle.pawk_code.specs.Expressions as code
use Rattle.pawk_store.specs.Parts.{Hold, value, global_array, local_array, Outcome, gives, halts, Part, give, settle, then_do, bind, local_at}
use Rattle.pawk_store.specs.Places.{Aim, parameter, cell, local_element, nowhere, array_at, element_of, variable_aim, index_by, table_at, read_in, field_value, read_at, old_at, write_at, change_at, add_at, holds_in, remove_in, clear_of, keys_of}
use Rattle.pawk_store.specs.Places as places
use Rattle.pawk_store.specs.Builtins.{within_limit, joined_by, index, bytes_where, is_from, letters_in, Replaced, replaced_by, found_by, fixed_at, pieces_by, pieces_between, sign_of, side_of, related, same_truth, formatted_text, decimal}
use Rattle.pawk_store.specs.Meaning.{one_or_zero, both_of, place_of_match, leaf_value, key_of, pattern_of, fill_from, pieces_of, split_into, put_replaced, set_match, eval, number_of, function_of, truth_of, text_of_textual, joined_texts, suffixed, texts_of, values_of, arguments_of, argument_of, aim_of, operand_of, format_of, separator_of}
use Rattle.pawk_store.specs.Lockstep.{Resource, variable_slot, array_slot, function_slot, last_match, Access, reads, olds, writes, changes, tests, removes, clears, walks, runs, IsHeld}
use Rattle.pawk_store.specs.Allows.{scalar_access, LooksAt, TouchesArray, TouchesVariable, TouchesField, Touches, AllowsJoining, AllowsLeaf, Allows, AllowsEach, AllowsPlace, AllowsNumeric, AllowsFunction, AllowsTest, AllowsTextual, AllowsPattern, AllowsFieldsBy, AllowsFormat, AllowsArgument, AllowsArguments}
use Rattle.pawk_store.proofs.Later.{Any, held_set, held_more, held_whole, Holding, holding_array}
use Rattle.pawk_store.proofs.Going.{Track, Held, Goes, goes_bind, goes_weak, goes_nearby, goes_give, goes_plain, goes_settle, goes_framed, goes_stated, goes_looked, goes_spelled, goes_ask, goes_as_number, goes_as_truth, goes_as_text, goes_dropped, goes_if, goes_decide, goes_with_record}

module _ (permits : Access → Resource → Type 0) where
  -- an aim that may be touched so
  abbrev pub Aims : Access → Aim → Type 0
  Aims access (cell (world.scalar n)) = permits (scalar_access access) (variable_slot n)
  Aims access (cell (world.element n key)) = permits access (array_slot n)
  Aims access (parameter i) = Unit {0}
  Aims access (local_element n key) = Unit {0}
  Aims access (places.field n) = TouchesField permits access
  Aims access nowhere = Unit {0}

  pub aims_element : (access : Access) (x : Hold) (key : List ℕ) → Holding permits access x → Aims access (element_of x key)
  aims_element access (value v) key h = tt
  aims_element access (global_array n) key h = h
  aims_element access (local_array n) key h = tt

  pub aims_variable : (access : Access) (x : Variable) → TouchesVariable permits access x → Aims access (variable_aim x)
  aims_variable access (variable.Global n) h = h
  aims_variable access (variable.Local i) h = tt

  -- the aim of a place may be touched as the place may
  abbrev pub AimOf : Place → Aim → Type 0
  AimOf p aim = (access : Access) → Touches permits access p → Aims access aim

-- one text for each of the expressions, after those that are there
abbrev pub OneEach : Exprs → List (List ℕ) → List (List ℕ) → Type 0
OneEach none front ts = front ≡ ts
OneEach (more e es) front ts = (s : List ℕ) × OneEach es (front ++ s ∷ []) ts

then_assoc : {S X Y Z : Type 0} (o : Outcome S X) (f : X → Part S Y) (k : Y → Part S Z) → then_do o (λ x. bind (f x) k) ≡ then_do (then_do o f) k
then_assoc (gives x m) f k = refl
then_assoc (halts h s state out) f k = refl

module _ {S T : Type 0} {t : Track S T} where
  pub goes_field_value : (n : ℕ) (v : Val) → TouchesField t.pair.permits writes → Goes t Any (field_value t.pair.first_calls n v) (field_value t.pair.second_calls n v)
  goes_field_value zero v may = goes_spelled Any fs_slot _ _ may.0 (λ fs. goes_stated Any (λ s. places.with_record (with_text fs (is_paragraph s) (text_of v))) (λ s. places.with_record (with_text fs (is_paragraph s) (text_of v))) (λ s. goes_with_record (with_text fs (is_paragraph s) (text_of v))))
  goes_field_value (suc n) v may = goes_spelled Any ofs_slot _ _ may.1 (λ ofs. goes_stated Any (λ s. places.with_record (with_field (suc n) v ofs s.line)) (λ s. places.with_record (with_field (suc n) v ofs s.line)) (λ s. goes_with_record (with_field (suc n) v ofs s.line)))

  pub goes_read_at : (aim : Aim) → Aims t.pair.permits reads aim → Goes t Any (read_at t.pair.first_calls aim) (read_at t.pair.second_calls aim)
  goes_read_at (parameter i) may = goes_nearby Any (λ e. (local_at e.frame i, e)) (λ e held. (tt, held, t.order.here e.state))
  goes_read_at (cell (world.scalar n)) may = goes_looked Any n give give may (λ v. goes_plain v)
  goes_read_at (cell (world.element n key)) may = goes_ask (world.read n key) may
  goes_read_at (local_element n key) may = goes_nearby Any (λ e. let r = read_in key (table_at e.arrays n) in (r.0, record e { arrays = slice_set e.arrays n r.1 })) (λ e held. (tt, held, t.order.here e.state))
  goes_read_at (places.field n) may = goes_nearby Any (λ e. (field_at e.state.line n, e)) (λ e held. (tt, held, t.order.here e.state))
  goes_read_at nowhere may = goes_plain Uninit

  pub goes_old_at : (aim : Aim) → Aims t.pair.permits olds aim → Goes t Any (old_at t.pair.first_calls aim) (old_at t.pair.second_calls aim)
  goes_old_at (parameter i) may = goes_read_at (parameter i) tt
  goes_old_at (cell (world.scalar n)) may = goes_read_at (cell (world.scalar n)) may
  goes_old_at (cell (world.element n key)) may = goes_ask (world.old n key) may
  goes_old_at (local_element n key) may = goes_read_at (local_element n key) tt
  goes_old_at (places.field n) may = goes_read_at (places.field n) tt
  goes_old_at nowhere may = goes_read_at nowhere tt

  pub goes_write_at : (aim : Aim) (v : Val) → Aims t.pair.permits writes aim → Goes t Any (write_at t.pair.first_calls aim v) (write_at t.pair.second_calls aim v)
  goes_write_at (parameter i) v may = goes_nearby Any (λ e. (tt {0}, record e { frame = slice_set e.frame i (value v) })) (λ e held. (tt, held_set t.pair.permits e.frame i v held, t.order.here e.state))
  goes_write_at (cell (world.scalar n)) v may = goes_ask (world.write (world.scalar n) v) may
  goes_write_at (cell (world.element n key)) v may = goes_ask (world.write (world.element n key) v) may
  goes_write_at (local_element n key) v may = goes_nearby Any (λ e. (tt {0}, record e { arrays = slice_set e.arrays n (put key v (table_at e.arrays n)) })) (λ e held. (tt, held, t.order.here e.state))
  goes_write_at (places.field n) v may = goes_field_value n v may
  goes_write_at nowhere v may = goes_plain (tt {0})

  pub goes_change_at : (op : Op) (aim : Aim) (y : Result ℤ Fault) → Aims t.pair.permits olds aim → Aims t.pair.permits writes aim → Goes t Any (change_at t.pair.first_calls op aim y) (change_at t.pair.second_calls op aim y)
  goes_change_at op aim y may may' =
      goes_bind (goes_as_number (goes_old_at aim may)) (λ x _. goes_bind (goes_settle x) (λ old _. goes_bind (goes_settle (arith_by op x y)) (λ z _. goes_bind (goes_write_at aim (Num z) may') (λ _ _. goes_plain (old, z)))))

  pub goes_add_at : (sign : Sign) (aim : Aim) (y : Result ℤ Fault) → Aims t.pair.permits (changes sign) aim → Goes t Any (add_at t.pair.first_calls sign aim y) (add_at t.pair.second_calls sign aim y)
  goes_add_at sign (cell (world.scalar n)) y may = goes_ask (world.add sign (world.scalar n) y) may
  goes_add_at sign (cell (world.element n key)) y may = goes_ask (world.add sign (world.element n key) y) may
  goes_add_at sign (parameter i) y may = goes_dropped (goes_change_at (op_of sign) (parameter i) y tt tt)
  goes_add_at sign (local_element n key) y may = goes_dropped (goes_change_at (op_of sign) (local_element n key) y tt tt)
  goes_add_at sign (places.field n) y may = goes_dropped (goes_change_at (op_of sign) (places.field n) y tt may)
  goes_add_at sign nowhere y may = goes_dropped (goes_change_at (op_of sign) nowhere y tt tt)

  pub goes_holds_in : (x : Hold) (key : List ℕ) → Holding t.pair.permits tests x → Goes t Any (holds_in t.pair.first_calls x key) (holds_in t.pair.second_calls x key)
  goes_holds_in (value v) key may = goes_plain false
  goes_holds_in (global_array n) key may = goes_ask (world.test n key) may
  goes_holds_in (local_array n) key may = goes_nearby Any (λ e. (is_some (found key (table_at e.arrays n)), e)) (λ e held. (tt, held, t.order.here e.state))

  pub goes_remove_in : (x : Hold) (key : List ℕ) → Holding t.pair.permits removes x → Goes t Any (remove_in t.pair.first_calls x key) (remove_in t.pair.second_calls x key)
  goes_remove_in (value v) key may = goes_plain (tt {0})
  goes_remove_in (global_array n) key may = goes_ask (world.remove n key) may
  goes_remove_in (local_array n) key may = goes_nearby Any (λ e. (tt {0}, record e { arrays = slice_set e.arrays n (without key (table_at e.arrays n)) })) (λ e held. (tt, held, t.order.here e.state))

  pub goes_clear_of : (x : Hold) → Holding t.pair.permits clears x → Goes t Any (clear_of t.pair.first_calls x) (clear_of t.pair.second_calls x)
  goes_clear_of (value v) may = goes_plain (tt {0})
  goes_clear_of (global_array n) may = goes_ask (world.clear n) may
  goes_clear_of (local_array n) may = goes_nearby Any (λ e. (tt {0}, record e { arrays = slice_set e.arrays n [] })) (λ e held. (tt, held, t.order.here e.state))

  pub goes_keys_of : (x : Hold) → Holding t.pair.permits walks x → Goes t Any (keys_of t.pair.first_calls x) (keys_of t.pair.second_calls x)
  goes_keys_of (value v) may = goes_plain []
  goes_keys_of (global_array n) may = goes_ask (world.keys n) may
  goes_keys_of (local_array n) may = goes_nearby Any (λ e. (keys (table_at e.arrays n), e)) (λ e held. (tt, held, t.order.here e.state))

module _ {S T : Type 0} {t : Track S T} (eres : List (List ℕ)) where
  goes_leaf : (l : Leaf) → AllowsLeaf t.pair.permits l → Goes t Any (λ m. give (leaf_value t.pair.first_calls l m) m) (λ n. give (leaf_value t.pair.second_calls l n) n)
  goes_leaf (number z) may = goes_plain (Num z)
  goes_leaf (text s) may = goes_plain (Text s)
  goes_leaf (global n) may = goes_looked Any n give give may (λ v. goes_plain v)
  goes_leaf (local i) may = goes_nearby Any (λ e. (local_at e.frame i, e)) (λ e held. (tt, held, t.order.here e.state))
  goes_leaf (code.special x) may = goes_nearby Any (λ e. (special_value x e.state, e)) (λ e held. (tt, held, t.order.here e.state))
  goes_leaf (code.field n) may = goes_nearby Any (λ e. (field_at e.state.line n, e)) (λ e held. (tt, held, t.order.here e.state))

  goes_joining : (ks : List (List ℕ)) → LooksAt t.pair.permits subsep_slot → Goes t Any (key_of t.pair.first_calls ks) (key_of t.pair.second_calls ks)
  goes_joining [] may = goes_plain []
  goes_joining (k ∷ []) may = goes_plain k
  goes_joining (k ∷ l ∷ ks) may = goes_spelled Any subsep_slot (λ s. settle (within_limit (joined_by s (k ∷ l ∷ ks)))) (λ s. settle (within_limit (joined_by s (k ∷ l ∷ ks)))) may (λ s. goes_settle (within_limit (joined_by s (k ∷ l ∷ ks))))

  goes_key_of : (es : Exprs) → AllowsJoining t.pair.permits es → (ks : List (List ℕ)) → OneEach es [] ks → Goes t Any (key_of t.pair.first_calls ks) (key_of t.pair.second_calls ks)
  goes_key_of none may ks is = subst (λ k. Goes t Any (key_of t.pair.first_calls k) (key_of t.pair.second_calls k)) is (goes_plain [])
  goes_key_of (more e none) may ks is = subst (λ k. Goes t Any (key_of t.pair.first_calls k) (key_of t.pair.second_calls k)) is.1 (goes_plain is.0)
  goes_key_of (more e (more f es)) may ks is = goes_joining ks may

  goes_fill_from : (to : Hold) → Holding t.pair.permits writes to → (n : ℕ) (pieces : List (List ℕ)) → Goes t Any (fill_from t.pair.first_calls to n pieces) (fill_from t.pair.second_calls to n pieces)
  goes_fill_from to may n [] = goes_plain (tt {0})
  goes_fill_from to may n (piece ∷ pieces) =
      goes_bind (goes_write_at (element_of to (decimal n)) (Maybe piece) (aims_element t.pair.permits writes to (decimal n) may)) (λ _ _. goes_fill_from to may (suc n) pieces)

  goes_split_into : (to : Hold) → Holding t.pair.permits clears to → Holding t.pair.permits writes to → {p : Part S (Result (List (List ℕ)) Fault)} {q : Part T (Result (List (List ℕ)) Fault)} → Goes t Any p q → Goes t Any (split_into t.pair.first_calls to p) (split_into t.pair.second_calls to q)
  goes_split_into to may may' g =
      goes_bind (goes_clear_of to may) (λ _ _. goes_bind g (λ r _. goes_bind (goes_settle r) (λ ps _. goes_bind (goes_fill_from to may' 1 ps) (λ _ _. goes_plain (pos (length ps))))))

  goes_pieces_of : (by : FieldsBy) → AllowsFieldsBy t.pair.permits by → (u s : List ℕ) → Goes t Any (pieces_of t.pair.first_calls eres by u s) (pieces_of t.pair.second_calls eres by u s)
  goes_pieces_of by_fs may u s = goes_spelled Any fs_slot (λ fs. give (pieces_by fs s)) (λ fs. give (pieces_by fs s)) may (λ fs. goes_plain (pieces_by fs s))
  goes_pieces_of (by_fixed n) may u s = goes_plain (pieces_between (fixed_at eres n) s)
  goes_pieces_of (by_value e) may u s = goes_plain (pieces_by u s)

  -- the same with the array that is meant when the pieces are cut
  goes_split_at : (a : Array) → TouchesArray t.pair.permits clears a → TouchesArray t.pair.permits writes a → {p : Part S (Result (List (List ℕ)) Fault)} {q : Part T (Result (List (List ℕ)) Fault)} → Goes t Any p q → Goes t Any (λ m. split_into t.pair.first_calls (array_at m.frame a) p m) (λ n. split_into t.pair.second_calls (array_at n.frame a) q n)
  goes_split_at a may may' {p = p} {q = q} g = goes_framed Any (λ f. split_into t.pair.first_calls (array_at f a) p) (λ f. split_into t.pair.second_calls (array_at f a) q) (λ f held. goes_split_into (array_at f a) (holding_array t.pair.permits clears f a held may) (holding_array t.pair.permits writes f a held may') g)

  goes_put_replaced : (aim : Aim) → Aims t.pair.permits writes aim → (r : Replaced) → Goes t Any (put_replaced t.pair.first_calls aim r) (put_replaced t.pair.second_calls aim r)
  goes_put_replaced aim may r =
      goes_if (r.count == 0) (goes_plain (pos 0)) (goes_bind (goes_settle (within_limit r.text)) (λ s _. goes_bind (goes_write_at aim (Text s) may) (λ _ _. goes_plain (pos r.count))))

  goes_set_match : t.pair.permits writes last_match → (p : ℤ × ℤ) → Goes t Any (set_match p) (set_match p)
  goes_set_match may p = goes_nearby Any (λ e. (p.0, record e { state = record e.state { rstart = p.0; rlength = p.1 } })) (λ e held. (tt, held, t.order.match may e.state p.0 p.1))

  module _ (enter : ℕ → List Hold → Part S Val) (enter' : ℕ → List Hold → Part T Val) (entered_too : (f : ℕ) → t.pair.permits runs (function_slot f) → (values : List Hold) → Held t values → Goes t Any (enter f values) (enter' f values)) where
    pub goes_subscripts : (ks : Exprs) → AllowsJoining t.pair.permits ks → Goes t (OneEach ks []) (texts_of t.pair.first_calls eres enter ks []) (texts_of t.pair.second_calls eres enter' ks []) → Goes t Any (bind (texts_of t.pair.first_calls eres enter ks []) (key_of t.pair.first_calls)) (bind (texts_of t.pair.second_calls eres enter' ks []) (key_of t.pair.second_calls))
    goes_subscripts ks may g = goes_bind g (λ ts is. goes_key_of ks may ts is)

    mutual
      pub goes_eval : (e : Expr) → Allows t.pair.permits e → Goes t Any (eval t.pair.first_calls eres enter e) (eval t.pair.second_calls eres enter' e)
      goes_eval (leaf l) may = goes_leaf l may
      goes_eval (numeric n) may = goes_bind (goes_number n may) (λ z _. goes_plain (Num z))
      goes_eval (test x) may = goes_bind (goes_truth x may) (λ h _. goes_plain (one_or_zero h))
      goes_eval (textual x) may = goes_bind (goes_textual x may) (λ s _. goes_plain (Text s))
      goes_eval (read p) may = goes_bind (goes_aim p may.0) (λ aim aims. goes_read_at aim (aims reads may.1))
      goes_eval (choice c a b) may = goes_decide (goes_as_truth (goes_eval c may.0)) (λ h. goes_if h (goes_eval a may.1) (goes_eval b may.2))
      goes_eval (assign p e) may = goes_bind (goes_aim p may.0) (λ aim aims. goes_bind (goes_eval e may.1) (λ v _. goes_bind (goes_write_at aim v (aims writes may.2)) (λ _ _. goes_plain v)))
      goes_eval (call f as') may = goes_bind (goes_arguments as' may.1 [] tt) (λ values held. entered_too f may.0 values held)

      goes_number : (n : Numeric) → AllowsNumeric t.pair.permits n → Goes t Any (number_of t.pair.first_calls eres enter n) (number_of t.pair.second_calls eres enter' n)
      goes_number (arithmetic op a b) may = goes_bind (goes_as_number (goes_eval a may.0)) (λ x _. goes_bind (goes_as_number (goes_eval b may.1)) (λ y _. goes_settle (arith_by op x y)))
      goes_number (signed s a) may = goes_bind (goes_as_number (goes_eval a may)) (λ x _. goes_settle (arith_by (op_of s) (Ok (pos 0)) x))
      goes_number (change op p e) may = goes_bind (goes_aim p may.0) (λ aim aims. goes_bind (goes_as_number (goes_eval e may.1)) (λ y _. goes_bind (goes_change_at op aim y (aims olds may.2) (aims writes may.3)) (λ z _. goes_plain z.1)))
      goes_number (step s p) may = goes_bind (goes_aim p may.0) (λ aim aims. goes_bind (goes_change_at (op_of (sign_of s)) aim (Ok (pos 1)) (aims olds may.1) (aims writes may.2)) (λ z _. goes_plain (side_of s z)))
      goes_number (function f) may = goes_function f may
      goes_number (split e a by) may = goes_bind (goes_as_text [] (goes_eval e may.0)) (λ s _. goes_bind (goes_separator by may.1) (λ u _. goes_split_at a may.2 may.3 (goes_pieces_of by may.1 u s)))
      goes_number (replace c p r to) may =
          goes_bind (goes_operand p may.0) (λ u _. goes_bind (goes_as_text [] (goes_eval r may.1)) (λ r _.
          goes_bind (goes_aim to may.2) (λ aim aims. goes_bind (goes_as_text [] (goes_read_at aim (aims reads may.3))) (λ s _.
          goes_bind (goes_settle (replaced_by c (pattern_of eres p u) r s)) (λ x _. goes_put_replaced aim (aims writes may.4) x)))))
      goes_number (find e p) may =
          goes_bind (goes_as_text [] (goes_eval e may.0)) (λ s _. goes_bind (goes_operand p may.1) (λ u _.
          goes_bind (goes_settle (found_by (pattern_of eres p u) s)) (λ found _. goes_set_match may.2 (place_of_match found))))

      goes_function : (f : NumericFunction) → AllowsFunction t.pair.permits f → Goes t Any (function_of t.pair.first_calls eres enter f) (function_of t.pair.second_calls eres enter' f)
      goes_function (length_of e) may = goes_bind (goes_as_text [] (goes_eval e may)) (λ s _. goes_plain (pos (length s)))
      goes_function (index_of e f) may = goes_bind (goes_as_text [] (goes_eval e may.0)) (λ s _. goes_bind (goes_as_text [] (goes_eval f may.1)) (λ u _. goes_plain (pos (index s u))))
      goes_function (whole e) may = goes_bind (goes_as_number (goes_eval e may)) (λ x _. goes_settle x)

      goes_truth : (x : Test) → AllowsTest t.pair.permits x → Goes t Any (truth_of t.pair.first_calls eres enter x) (truth_of t.pair.second_calls eres enter' x)
      goes_truth (compare r a b) may = goes_bind (goes_eval a may.0) (λ x _. goes_bind (goes_eval b may.1) (λ y _. goes_settle (related r x y)))
      goes_truth (both a b) may = goes_decide (goes_as_truth (goes_eval a may.0)) (λ h. goes_if h (goes_bind (goes_as_truth (goes_eval b may.1)) (λ x _. goes_settle x)) (goes_plain false))
      goes_truth (either a b) may = goes_decide (goes_as_truth (goes_eval a may.0)) (λ h. goes_if h (goes_plain true) (goes_bind (goes_as_truth (goes_eval b may.1)) (λ x _. goes_settle x)))
      goes_truth (negation a) may = goes_decide (goes_as_truth (goes_eval a may)) (λ h. goes_plain (not h))
      goes_truth (matches holds e p) may =
          goes_bind (goes_as_text [] (goes_eval e may.0)) (λ s _. goes_bind (goes_operand p may.1) (λ u _.
          goes_bind (goes_settle (found_by (pattern_of eres p u) s)) (λ found _. goes_plain (same_truth holds (is_some found)))))
      goes_truth (member a ks) may = goes_bind (goes_subscripts ks may.1 (goes_texts ks may.0 [])) (λ key _. goes_framed Any (λ f. holds_in t.pair.first_calls (array_at f a) key) (λ f. holds_in t.pair.second_calls (array_at f a) key) (λ f held. goes_holds_in (array_at f a) key (holding_array t.pair.permits tests f a held may.2)))

      goes_textual : (x : Textual) → AllowsTextual t.pair.permits x → Goes t Any (text_of_textual t.pair.first_calls eres enter x) (text_of_textual t.pair.second_calls eres enter' x)
      goes_textual (join es) may = goes_joined es may
      goes_textual (suffix e a) may =
          goes_bind (goes_as_text [] (goes_eval e may.0)) (λ s _. goes_bind (goes_as_number (goes_eval a may.1)) (λ x _. goes_bind (goes_settle x) (λ from _. goes_plain (bytes_where (λ p. int_le from (pos p)) 1 s))))
      goes_textual (substring e a b) may =
          goes_bind (goes_as_text [] (goes_eval e may.0)) (λ s _. goes_bind (goes_as_number (goes_eval a may.1)) (λ x _. goes_bind (goes_as_number (goes_eval b may.2)) (λ y _.
          goes_bind (goes_settle (both_of x y)) (λ z _. goes_plain (bytes_where (is_from z.0 z.1) 1 s)))))
      goes_textual (letters c e) may = goes_bind (goes_as_text [] (goes_eval e may)) (λ s _. goes_plain (letters_in c s))
      goes_textual (formatted f es) may = goes_bind (goes_format f may.0) (λ format _. goes_bind (goes_values es may.1 []) (λ vs _. goes_settle (formatted_text format vs)))

      goes_joined : (es : Exprs) → AllowsEach t.pair.permits es → Goes t Any (joined_texts t.pair.first_calls eres enter es) (joined_texts t.pair.second_calls eres enter' es)
      goes_joined none may = goes_plain []
      goes_joined (more e es) may = goes_bind (goes_as_text [] (goes_eval e may.0)) (λ s _. goes_suffixed es may.1 s)

      goes_suffixed : (es : Exprs) → AllowsEach t.pair.permits es → (front : List ℕ) → Goes t Any (suffixed t.pair.first_calls eres enter es front) (suffixed t.pair.second_calls eres enter' es front)
      goes_suffixed none may front = goes_plain front
      goes_suffixed (more e es) may front = goes_bind (goes_as_text front (goes_eval e may.0)) (λ s _. goes_bind (goes_settle (within_limit s)) (λ u _. goes_suffixed es may.1 u))

      pub goes_texts : (es : Exprs) → AllowsEach t.pair.permits es → (front : List (List ℕ)) → Goes t (OneEach es front) (texts_of t.pair.first_calls eres enter es front) (texts_of t.pair.second_calls eres enter' es front)
      goes_texts none may front = goes_give (OneEach none front) front refl
      goes_texts (more e es) may front = goes_bind (goes_as_text [] (goes_eval e may.0)) (λ s _. goes_weak (OneEach es (front ++ s ∷ [])) (OneEach (more e es) front) (λ ts is. (s, is)) (goes_texts es may.1 (front ++ s ∷ [])))

      pub goes_values : (es : Exprs) → AllowsEach t.pair.permits es → (front : List Val) → Goes t Any (values_of t.pair.first_calls eres enter es front) (values_of t.pair.second_calls eres enter' es front)
      goes_values none may front = goes_plain front
      goes_values (more e es) may front = goes_bind (goes_eval e may.0) (λ v _. goes_values es may.1 (front ++ v ∷ []))

      goes_arguments : (xs : Arguments) → AllowsArguments t.pair.permits xs → (front : List Hold) → Held t front → Goes t (Held t) (arguments_of t.pair.first_calls eres enter xs front) (arguments_of t.pair.second_calls eres enter' xs front)
      goes_arguments no_arguments may front held = goes_give (Held t) front held
      goes_arguments (more_arguments a as') may front held = goes_bind (goes_argument a may.0) (λ h is. goes_arguments as' may.1 (front ++ h ∷ []) (held_more t.pair.permits front h held is))

      goes_argument : (a : Argument) → AllowsArgument t.pair.permits a → Goes t (IsHeld t.pair.permits) (argument_of t.pair.first_calls eres enter a) (argument_of t.pair.second_calls eres enter' a)
      goes_argument (pass e) may = goes_bind (goes_eval e may) (λ v _. goes_give (IsHeld t.pair.permits) (value v) tt)
      goes_argument (pass_array a) may = goes_nearby (IsHeld t.pair.permits) (λ e. (array_at e.frame a, e)) (λ e held. (held_whole t.pair.permits e.frame a held may, held, t.order.here e.state))

      pub goes_aim : (p : Place) → AllowsPlace t.pair.permits p → Goes t (AimOf t.pair.permits p) (aim_of t.pair.first_calls eres enter p) (aim_of t.pair.second_calls eres enter' p)
      goes_aim (to_global n) may = goes_give (AimOf t.pair.permits (to_global n)) (cell (world.scalar n)) (λ access h. h)
      goes_aim (to_local i) may = goes_give (AimOf t.pair.permits (to_local i)) (parameter i) (λ access h. tt)
      goes_aim (to_element a ks) may = goes_bind (goes_subscripts ks may.1 (goes_texts ks may.0 [])) (λ key _. goes_nearby (AimOf t.pair.permits (to_element a ks)) (λ e. (element_of (array_at e.frame a) key, e)) (λ e held. (λ access h. aims_element t.pair.permits access (array_at e.frame a) key (holding_array t.pair.permits access e.frame a held h), held, t.order.here e.state)))
      goes_aim (to_field e) may = goes_bind (goes_as_number (goes_eval e may)) (λ x _. goes_bind (goes_settle (index_by x)) (λ n _. goes_give (AimOf t.pair.permits (to_field e)) (places.field n) (λ access h. h)))

      goes_operand : (p : Pattern) → AllowsPattern t.pair.permits p → Goes t Any (operand_of t.pair.first_calls eres enter p) (operand_of t.pair.second_calls eres enter' p)
      goes_operand (fixed_pattern n) may = goes_plain []
      goes_operand (spelled_by e) may = goes_as_text [] (goes_eval e may)

      pub goes_format : (f : Format) → AllowsFormat t.pair.permits f → Goes t Any (format_of t.pair.first_calls eres enter f) (format_of t.pair.second_calls eres enter' f)
      goes_format (fixed_format s) may = goes_plain s
      goes_format (code.format_of e) may = goes_as_text [] (goes_eval e may)

      goes_separator : (by : FieldsBy) → AllowsFieldsBy t.pair.permits by → Goes t Any (separator_of t.pair.first_calls eres enter by) (separator_of t.pair.second_calls eres enter' by)
      goes_separator by_fs may = goes_plain []
      goes_separator (by_fixed n) may = goes_plain []
      goes_separator (by_value e) may = goes_as_text [] (goes_eval e may)
