-- Expressions that do not read NR do not look at it.
use Rattle.std.proofs.Common.{◌≡◌, ℕ, pos, suc, List, [], ◌∷◌, ◌++◌, refl, true, false, not, Result, Ok, length}
use Rattle.std.specs.Prelude.{◌==◌, is_some, int_le}
use Rattle.pawk_value.specs.declared.faults.Fault.{Fault}
use Rattle.pawk_value.specs.Value.{Val, Num, Text, Maybe}
use Rattle.pawk_world.specs.Sums.{arith_by, op_of}
use Rattle.pawk_world.specs.Worlds.{Calls}
use Rattle.pawk_world.specs.Worlds as world
use Rattle.pawk_store.specs.Slots.{subsep_slot}
use Rattle.pawk_code.specs.declared.leaf.Special.{Special}
use Rattle.pawk_code.specs.declared.leaf.Special.TheVariants as special
use Rattle.pawk_code.specs.Expressions.{Expr, leaf, numeric, test, textual, read, choice, assign, call, Leaf, number, text, global, local, Exprs, none, more, Place, to_global, to_local, to_element, to_field, Numeric, arithmetic, signed, change, step, function, split, replace, find, NumericFunction, length_of, index_of, whole, Test, compare, both, either, negation, matches, member, Textual, join, suffix, substring, letters, formatted, Pattern, fixed_pattern, spelled_by, FieldsBy, by_fs, by_fixed, by_value, Format, fixed_format, Argument, pass, pass_array, Arguments, no_arguments, more_arguments}
use Rattle.pawk_code.specs.Expressions as code
use Rattle.pawk_store.specs.Parts.{Hold, value, Part}
use Rattle.pawk_store.specs.Places.{Aim, parameter, cell, array_at, element_of, index_by, text_at}
use Rattle.pawk_store.specs.Places as places
use Rattle.pawk_store.specs.Builtins.{within_limit, joined_by, index, bytes_where, is_from, letters_in, Replaced, replaced_by, found_by, sign_of, side_of, related, same_truth, formatted_text, decimal}
use Rattle.pawk_store.specs.Meaning.{one_or_zero, both_of, pattern_of, value_of_leaf, key_of, fill_from, pieces_of, split_into, put_replaced, eval, number_of, function_of, truth_of, text_of_textual, joined_texts, suffixed, texts_of, values_of, arguments_of, argument_of, aim_of, operand_of, format_of, separator_of}
use Rattle.pawk_numbered.specs.Mentions.{is_number_of_records, in_leaf, in_expression, in_expressions, in_place, in_numeric, in_function_of_number, in_test, in_textual, in_pattern, in_fields_by, in_format, in_argument, in_arguments}
use Rattle.pawk_numbered.proofs.Blind.{IsBlind, neither, none_of_three, bind_blind, give_blind, settle_blind, number_blind, truth_blind, text_blind, if_blind, decide_blind, read_at_blind, write_at_blind, change_at_blind, holds_in_blind, clear_of_blind}

module _ {S : Type 0} {before : ℕ} (calls : Calls S) where
  special_blind : (x : Special) → is_number_of_records x ≡ false → IsBlind before (value_of_leaf calls (code.special x))
  special_blind special.Nr h = let bad : true ≡ false = h in absurd cc
  special_blind special.Nf h = record { same = λ m. refl }
  special_blind special.Fnr h = record { same = λ m. refl }
  special_blind special.Filename h = record { same = λ m. refl }
  special_blind special.Rstart h = record { same = λ m. refl }
  special_blind special.Rlength h = record { same = λ m. refl }

  leaf_blind : (l : Leaf) → in_leaf l ≡ false → IsBlind before (value_of_leaf calls l)
  leaf_blind (number z) h = record { same = λ m. refl }
  leaf_blind (text s) h = record { same = λ m. refl }
  leaf_blind (global n) h = record { same = λ m. refl }
  leaf_blind (local i) h = record { same = λ m. refl }
  leaf_blind (code.special x) h = special_blind x h
  leaf_blind (code.field n) h = record { same = λ m. refl }

  pub key_of_blind : (ks : List (List ℕ)) → IsBlind before (key_of calls ks)
  key_of_blind [] = record { same = λ m. refl }
  key_of_blind (k ∷ []) = record { same = λ m. refl }
  key_of_blind (k ∷ l ∷ ks) = record { same = λ m. (settle_blind (within_limit (joined_by (text_at calls subsep_slot m) (k ∷ l ∷ ks)))).same m }

  fill_from_blind : (to : Hold) (n : ℕ) (pieces : List (List ℕ)) → IsBlind before (fill_from calls to n pieces)
  fill_from_blind to n [] = record { same = λ m. refl }
  fill_from_blind to n (piece ∷ pieces) = bind_blind (write_at_blind calls (element_of to (decimal n)) (Maybe piece)) (λ _. fill_from_blind to (suc n) pieces)

  pieces_of_blind : (eres : List (List ℕ)) (by : FieldsBy) (u s : List ℕ) → IsBlind before (pieces_of calls eres by u s)
  pieces_of_blind eres by_fs u s = record { same = λ m. refl }
  pieces_of_blind eres (by_fixed n) u s = record { same = λ m. refl }
  pieces_of_blind eres (by_value e) u s = record { same = λ m. refl }

  split_into_blind : (to : Hold) {part : Part S (Result (List (List ℕ)) Fault)} → IsBlind before part → IsBlind before (split_into calls to part)
  split_into_blind to g =
      bind_blind (clear_of_blind calls to) (λ _. bind_blind g (λ r. bind_blind (settle_blind r) (λ ps. bind_blind (fill_from_blind to 1 ps) (λ _. give_blind (pos (length ps))))))

  put_replaced_blind : (aim : Aim) (r : Replaced) → IsBlind before (put_replaced calls aim r)
  put_replaced_blind aim r =
      if_blind (r.count == 0) (give_blind (pos 0)) (bind_blind (settle_blind (within_limit r.text)) (λ s. bind_blind (write_at_blind calls aim (Text s)) (λ _. give_blind (pos r.count))))

  module _ (eres : List (List ℕ)) (enter : ℕ → List Hold → Part S Val) (entered : (f : ℕ) (values : List Hold) → IsBlind before (enter f values)) where
    mutual
      pub eval_blind : (e : Expr) → in_expression e ≡ false → IsBlind before (eval calls eres enter e)
      eval_blind (leaf l) h = leaf_blind l h
      eval_blind (numeric n) h = bind_blind (number_of_blind n h) (λ z. give_blind (Num z))
      eval_blind (test x) h = bind_blind (truth_of_blind x h) (λ b. give_blind (one_or_zero b))
      eval_blind (textual x) h = bind_blind (textual_blind x h) (λ s. give_blind (Text s))
      eval_blind (read p) h = bind_blind (aim_blind p h) (λ aim. read_at_blind calls aim)
      eval_blind (choice c a b) h =
          let parts = none_of_three (in_expression c) (in_expression a) (in_expression b) h in
          decide_blind (truth_blind (eval_blind c parts.0)) (λ t. if_blind t (eval_blind a parts.1) (eval_blind b parts.2))
      eval_blind (assign p e) h =
          let parts = neither (in_place p) (in_expression e) h in
          bind_blind (aim_blind p parts.0) (λ aim. bind_blind (eval_blind e parts.1) (λ v. bind_blind (write_at_blind calls aim v) (λ _. give_blind v)))
      eval_blind (call f as') h = bind_blind (arguments_blind as' [] h) (λ values. entered f values)

      number_of_blind : (n : Numeric) → in_numeric n ≡ false → IsBlind before (number_of calls eres enter n)
      number_of_blind (arithmetic op a b) h =
          let parts = neither (in_expression a) (in_expression b) h in
          bind_blind (number_blind (eval_blind a parts.0)) (λ x. bind_blind (number_blind (eval_blind b parts.1)) (λ y. settle_blind (arith_by op x y)))
      number_of_blind (signed s a) h = bind_blind (number_blind (eval_blind a h)) (λ x. settle_blind (arith_by (op_of s) (Ok (pos 0)) x))
      number_of_blind (change op p e) h =
          let parts = neither (in_place p) (in_expression e) h in
          bind_blind (aim_blind p parts.0) (λ aim. bind_blind (number_blind (eval_blind e parts.1)) (λ y. bind_blind (change_at_blind calls op aim y) (λ z. give_blind z.1)))
      number_of_blind (step s p) h = bind_blind (aim_blind p h) (λ aim. bind_blind (change_at_blind calls (op_of (sign_of s)) aim (Ok (pos 1))) (λ z. give_blind (side_of s z)))
      number_of_blind (function f) h = function_blind f h
      number_of_blind (split e a by) h =
          let parts = neither (in_expression e) (in_fields_by by) h in
          bind_blind (text_blind [] (eval_blind e parts.0)) (λ s. bind_blind (separator_blind by parts.1) (λ u. record { same = λ m. (split_into_blind (array_at m.frame a) (pieces_of_blind eres by u s)).same m }))
      number_of_blind (replace c p r to) h =
          let parts = none_of_three (in_pattern p) (in_expression r) (in_place to) h in
          bind_blind (operand_blind p parts.0) (λ u. bind_blind (text_blind [] (eval_blind r parts.1)) (λ r.
          bind_blind (aim_blind to parts.2) (λ aim. bind_blind (text_blind [] (read_at_blind calls aim)) (λ s.
          bind_blind (settle_blind (replaced_by c (pattern_of eres p u) r s)) (λ x. put_replaced_blind aim x)))))
      number_of_blind (find e p) h =
          let parts = neither (in_expression e) (in_pattern p) h in
          bind_blind (text_blind [] (eval_blind e parts.0)) (λ s. bind_blind (operand_blind p parts.1) (λ u.
          bind_blind (settle_blind (found_by (pattern_of eres p u) s)) (λ found. record { same = λ m. refl })))

      function_blind : (f : NumericFunction) → in_function_of_number f ≡ false → IsBlind before (function_of calls eres enter f)
      function_blind (length_of e) h = bind_blind (text_blind [] (eval_blind e h)) (λ s. give_blind (pos (length s)))
      function_blind (index_of e f) h =
          let parts = neither (in_expression e) (in_expression f) h in
          bind_blind (text_blind [] (eval_blind e parts.0)) (λ s. bind_blind (text_blind [] (eval_blind f parts.1)) (λ u. give_blind (pos (index s u))))
      function_blind (whole e) h = bind_blind (number_blind (eval_blind e h)) (λ x. settle_blind x)

      truth_of_blind : (x : Test) → in_test x ≡ false → IsBlind before (truth_of calls eres enter x)
      truth_of_blind (compare r a b) h =
          let parts = neither (in_expression a) (in_expression b) h in
          bind_blind (eval_blind a parts.0) (λ x. bind_blind (eval_blind b parts.1) (λ y. settle_blind (related r x y)))
      truth_of_blind (both a b) h =
          let parts = neither (in_expression a) (in_expression b) h in
          decide_blind (truth_blind (eval_blind a parts.0)) (λ t. if_blind t (bind_blind (truth_blind (eval_blind b parts.1)) (λ x. settle_blind x)) (give_blind false))
      truth_of_blind (either a b) h =
          let parts = neither (in_expression a) (in_expression b) h in
          decide_blind (truth_blind (eval_blind a parts.0)) (λ t. if_blind t (give_blind true) (bind_blind (truth_blind (eval_blind b parts.1)) (λ x. settle_blind x)))
      truth_of_blind (negation a) h = decide_blind (truth_blind (eval_blind a h)) (λ t. give_blind (not t))
      truth_of_blind (matches holds e p) h =
          let parts = neither (in_expression e) (in_pattern p) h in
          bind_blind (text_blind [] (eval_blind e parts.0)) (λ s. bind_blind (operand_blind p parts.1) (λ u.
          bind_blind (settle_blind (found_by (pattern_of eres p u) s)) (λ found. give_blind (same_truth holds (is_some found)))))
      truth_of_blind (member a ks) h = bind_blind (bind_blind (texts_blind ks [] h) (λ ts. key_of_blind ts)) (λ key. record { same = λ m. (holds_in_blind calls (array_at m.frame a) key).same m })

      textual_blind : (x : Textual) → in_textual x ≡ false → IsBlind before (text_of_textual calls eres enter x)
      textual_blind (join es) h = joined_blind es h
      textual_blind (suffix e a) h =
          let parts = neither (in_expression e) (in_expression a) h in
          bind_blind (text_blind [] (eval_blind e parts.0)) (λ s. bind_blind (number_blind (eval_blind a parts.1)) (λ x. bind_blind (settle_blind x) (λ from. give_blind (bytes_where (λ p. int_le from (pos p)) 1 s))))
      textual_blind (substring e a b) h =
          let parts = none_of_three (in_expression e) (in_expression a) (in_expression b) h in
          bind_blind (text_blind [] (eval_blind e parts.0)) (λ s. bind_blind (number_blind (eval_blind a parts.1)) (λ x. bind_blind (number_blind (eval_blind b parts.2)) (λ y.
          bind_blind (settle_blind (both_of x y)) (λ z. give_blind (bytes_where (is_from z.0 z.1) 1 s)))))
      textual_blind (letters c e) h = bind_blind (text_blind [] (eval_blind e h)) (λ s. give_blind (letters_in c s))
      textual_blind (formatted f es) h =
          let parts = neither (in_format f) (in_expressions es) h in
          bind_blind (format_blind f parts.0) (λ format. bind_blind (values_blind es [] parts.1) (λ vs. settle_blind (formatted_text format vs)))

      joined_blind : (es : Exprs) → in_expressions es ≡ false → IsBlind before (joined_texts calls eres enter es)
      joined_blind none h = give_blind []
      joined_blind (more e es) h =
          let parts = neither (in_expression e) (in_expressions es) h in
          bind_blind (text_blind [] (eval_blind e parts.0)) (λ s. suffixed_blind es s parts.1)

      suffixed_blind : (es : Exprs) (front : List ℕ) → in_expressions es ≡ false → IsBlind before (suffixed calls eres enter es front)
      suffixed_blind none front h = give_blind front
      suffixed_blind (more e es) front h =
          let parts = neither (in_expression e) (in_expressions es) h in
          bind_blind (text_blind front (eval_blind e parts.0)) (λ s. bind_blind (settle_blind (within_limit s)) (λ u. suffixed_blind es u parts.1))

      pub texts_blind : (es : Exprs) (front : List (List ℕ)) → in_expressions es ≡ false → IsBlind before (texts_of calls eres enter es front)
      texts_blind none front h = give_blind front
      texts_blind (more e es) front h =
          let parts = neither (in_expression e) (in_expressions es) h in
          bind_blind (text_blind [] (eval_blind e parts.0)) (λ s. texts_blind es (front ++ s ∷ []) parts.1)

      pub values_blind : (es : Exprs) (front : List Val) → in_expressions es ≡ false → IsBlind before (values_of calls eres enter es front)
      values_blind none front h = give_blind front
      values_blind (more e es) front h =
          let parts = neither (in_expression e) (in_expressions es) h in
          bind_blind (eval_blind e parts.0) (λ v. values_blind es (front ++ v ∷ []) parts.1)

      arguments_blind : (xs : Arguments) (front : List Hold) → in_arguments xs ≡ false → IsBlind before (arguments_of calls eres enter xs front)
      arguments_blind no_arguments front h = give_blind front
      arguments_blind (more_arguments a as') front h =
          let parts = neither (in_argument a) (in_arguments as') h in
          bind_blind (argument_blind a parts.0) (λ x. arguments_blind as' (front ++ x ∷ []) parts.1)

      argument_blind : (a : Argument) → in_argument a ≡ false → IsBlind before (argument_of calls eres enter a)
      argument_blind (pass e) h = bind_blind (eval_blind e h) (λ v. give_blind (value v))
      argument_blind (pass_array a) h = record { same = λ m. refl }

      pub aim_blind : (p : Place) → in_place p ≡ false → IsBlind before (aim_of calls eres enter p)
      aim_blind (to_global n) h = give_blind (cell (world.scalar n))
      aim_blind (to_local i) h = give_blind (parameter i)
      aim_blind (to_element a ks) h = bind_blind (bind_blind (texts_blind ks [] h) (λ ts. key_of_blind ts)) (λ key. record { same = λ m. refl })
      aim_blind (to_field e) h = bind_blind (number_blind (eval_blind e h)) (λ x. bind_blind (settle_blind (index_by x)) (λ n. give_blind (places.field n)))

      operand_blind : (p : Pattern) → in_pattern p ≡ false → IsBlind before (operand_of calls eres enter p)
      operand_blind (fixed_pattern n) h = give_blind []
      operand_blind (spelled_by e) h = text_blind [] (eval_blind e h)

      pub format_blind : (f : Format) → in_format f ≡ false → IsBlind before (format_of calls eres enter f)
      format_blind (fixed_format s) h = give_blind s
      format_blind (code.format_of e) h = text_blind [] (eval_blind e h)

      separator_blind : (by : FieldsBy) → in_fields_by by ≡ false → IsBlind before (separator_of calls eres enter by)
      separator_blind by_fs h = give_blind []
      separator_blind (by_fixed n) h = give_blind []
      separator_blind (by_value e) h = text_blind [] (eval_blind e h)
