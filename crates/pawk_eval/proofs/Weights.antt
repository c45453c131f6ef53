-- What code weighs: more than its parts, with space for the demands on them.
use Rattle.std.proofs.Common.{◌≡◌, ℕ, zero, suc, ◌+◌, ◌*◌, ◌<◌, ◌≤◌, List, [], ◌∷◌, Option, Some, None, ap, arith, slice_get}
use Rattle.pawk_code.specs.Expressions.{Expr, leaf, numeric, test, textual, read, choice, assign, call, Exprs, none, more, Place, to_global, to_local, to_element, to_field, Numeric, arithmetic, signed, change, step, function, split, replace, find, NumericFunction, length_of, index_of, whole, Test, compare, both, either, negation, matches, member, Textual, join, suffix, substring, letters, formatted, Pattern, fixed_pattern, spelled_by, FieldsBy, by_fs, by_fixed, by_value, Format, fixed_format, format_of, Argument, pass, pass_array, Arguments, no_arguments, more_arguments}
use Rattle.pawk_code.specs.Statements.{Simple, drop, set, add, count, print, printf, delete, clear, Leave, break, continue, next_record, next_file, exit, return, Head, Stmt, simple, leave, when, choose, repeat, do_while, loop, walk, Stmts, done, next}
use Rattle.pawk_code.specs.Programs.{Function}
use Rattle.pawk_code.specs.ExpressionViews.{view}
use Rattle.pawk_eval.specs.declared.amount.Amount.{Amount}
use Rattle.pawk_eval.specs.declared.amount.Amount.TheVariants as amount

abbrev mutual
  pub weight : Expr → ℕ
  weight (leaf l) = 1
  weight (numeric n) = numeric_weight n + 2
  weight (test t) = test_weight t + 2
  weight (textual t) = textual_weight t + 2
  weight (read p) = place_weight p + 2
  weight (choice c a b) = weight c + weight a + weight b + 4
  weight (assign p e) = place_weight p + weight e + 2
  weight (call f as') = arguments_weight as' + 3

  pub row_weight : Exprs → ℕ
  row_weight none = 1
  row_weight (more e es) = weight e + row_weight es + 4

  pub place_weight : Place → ℕ
  place_weight (to_global n) = 1
  place_weight (to_local n) = 1
  place_weight (to_element a ks) = row_weight ks + 2
  place_weight (to_field e) = weight e + 3

  pub numeric_weight : Numeric → ℕ
  numeric_weight (arithmetic op a b) = weight a + weight b + 5
  numeric_weight (signed s a) = weight a + 4
  numeric_weight (change op p e) = place_weight p + weight e + 5
  numeric_weight (step s p) = place_weight p + 2
  numeric_weight (function f) = function_weight f + 1
  numeric_weight (split e a by) = weight e + separator_weight by + 5
  numeric_weight (replace c p r to) = pattern_weight p + weight r + place_weight to + 5
  numeric_weight (find e p) = weight e + pattern_weight p + 5

  pub function_weight : NumericFunction → ℕ
  function_weight (length_of e) = weight e + 4
  function_weight (index_of e f) = weight e + weight f + 5
  function_weight (whole e) = weight e + 3

  pub test_weight : Test → ℕ
  test_weight (compare r a b) = weight a + weight b + 3
  test_weight (both a b) = weight a + weight b + 4
  test_weight (either a b) = weight a + weight b + 4
  test_weight (negation a) = weight a + 4
  test_weight (matches holds e p) = weight e + pattern_weight p + 5
  test_weight (member a ks) = row_weight ks + 3

  pub textual_weight : Textual → ℕ
  textual_weight (join es) = row_weight es + 1
  textual_weight (suffix e a) = weight e + weight a + 4
  textual_weight (substring e a b) = weight e + weight a + weight b + 4
  textual_weight (letters c e) = weight e + 4
  textual_weight (formatted f es) = format_weight f + row_weight es + 2

  pub pattern_weight : Pattern → ℕ
  pattern_weight (fixed_pattern n) = 1
  pattern_weight (spelled_by e) = weight e + 4

  pub separator_weight : FieldsBy → ℕ
  separator_weight by_fs = 1
  separator_weight (by_fixed n) = 1
  separator_weight (by_value e) = weight e + 4

  pub format_weight : Format → ℕ
  format_weight (fixed_format t) = 1
  format_weight (format_of e) = weight e + 4

  pub argument_weight : Argument → ℕ
  argument_weight (pass e) = weight e + 3
  argument_weight (pass_array a) = 1

  pub arguments_weight : Arguments → ℕ
  arguments_weight no_arguments = 1
  arguments_weight (more_arguments a as') = argument_weight a + arguments_weight as' + 1

abbrev pub amount_weight : Amount → ℕ
amount_weight amount.One = 0
amount_weight (amount.Of e) = weight (view e.now) + 3

abbrev pub simple_weight : Simple → ℕ
simple_weight (drop e) = weight e + 2
simple_weight (set p e) = place_weight p + weight e + 3
simple_weight (add s p e) = place_weight p + weight e + 7
simple_weight (count s p) = place_weight p + 4
simple_weight (print calm es) = row_weight es + 3
simple_weight (printf f calm es) = format_weight f + row_weight es + 3
simple_weight (delete a ks) = row_weight ks + 3
simple_weight (clear a) = 1

abbrev pub option_weight : Option Expr → ℕ
option_weight None = 1
option_weight (Some e) = weight e + 3

abbrev pub option_simple_weight : Option Simple → ℕ
option_simple_weight None = 1
option_simple_weight (Some s) = simple_weight s + 1

abbrev pub leave_weight : Leave → ℕ
leave_weight break = 1
leave_weight continue = 1
leave_weight next_record = 1
leave_weight next_file = 1
leave_weight (exit e) = option_weight e + 1
leave_weight (return e) = option_weight e + 1

abbrev pub head_weight : Head → ℕ
head_weight head = option_simple_weight head.first + option_weight head.condition + option_simple_weight head.last

abbrev mutual
  pub statement_weight : Stmt → ℕ
  statement_weight (simple s) = simple_weight s + 1
  statement_weight (leave l) = leave_weight l + 1
  statement_weight (when c a) = weight c + body_weight a + 4
  statement_weight (choose c a b) = weight c + body_weight a + body_weight b + 4
  statement_weight (repeat c a) = weight c + body_weight a + 6
  statement_weight (do_while a c) = weight c + body_weight a + 7
  statement_weight (loop head a) = head_weight head + body_weight a + 3
  statement_weight (walk k a body) = body_weight body + 3

  pub body_weight : Stmts → ℕ
  body_weight done = 0
  body_weight (next s rest) = statement_weight s + body_weight rest + 1

-- all bodies together
abbrev pub bodies_weight : List Function → ℕ
bodies_weight [] = 0
bodies_weight (f ∷ fs) = body_weight f.body + bodies_weight fs

pub body_in_list : (fs : List Function) (i : ℕ) (f : Function) → slice_get fs i ≡ Some f → body_weight f.body ≤ bodies_weight fs
body_in_list [] i f h = cc
body_in_list (g ∷ fs) zero f h = let e : g ≡ f = cc in let k = ap (λ x. body_weight x.body) e in omega arith
body_in_list (g ∷ fs) (suc i) f h = let r = body_in_list fs i f h in omega arith

-- the measure of a part of this weight, where `depth` calls may be nested
abbrev pub rank : List Function → ℕ → ℕ → ℕ
rank fs depth w = depth * (bodies_weight fs + 2) + w

-- a body, with space for a demand on it, where one call less may be nested
pub rank_falls : (fs : List Function) (depth d w : ℕ) → depth ≡ d + 1 → w ≤ bodies_weight fs + 1 → rank fs d w < rank fs depth 0
rank_falls fs depth d w e h = rw e (omega arith)
