-- What occurs in the text of a program that decides whether its records may run in chunks: what is done with global
-- names, calls of functions and of `match`, ranges of records, `nextfile`. Parameters and fields are free.
use Rattle.std.specs.Prelude.{ℕ, List, [], ◌∷◌, ◌++◌, Option, Some, None, slice_get}
use Rattle.pawk_value.specs.declared.arithmetic.Op.{Op}
use Rattle.pawk_value.specs.declared.arithmetic.Op.TheVariants as op
use Rattle.pawk_code.specs.declared.name.Array.{Array}
use Rattle.pawk_code.specs.declared.name.Array.TheVariants as array
use Rattle.pawk_code.specs.declared.name.Variable.{Variable}
use Rattle.pawk_code.specs.declared.name.Variable.TheVariants as variable
use Rattle.pawk_code.specs.Expressions.{Leaf, number, text, global, local, special, field, Expr, leaf, numeric, test, textual, read, choice, assign, call, Exprs, none, more, Place, to_global, to_local, to_element, to_field, Numeric, arithmetic, signed, change, step, function, split, replace, find, NumericFunction, length_of, index_of, whole, Test, compare, both, either, negation, matches, member, Textual, join, suffix, substring, letters, formatted, Pattern, fixed_pattern, spelled_by, FieldsBy, by_fs, by_fixed, by_value, Format, fixed_format, format_of, Argument, pass, pass_array, Arguments, no_arguments, more_arguments}
use Rattle.pawk_code.specs.Statements.{Simple, drop, set, add, count, print, printf, delete, clear, Leave, break, continue, next_record, next_file, exit, return, Head, Stmt, simple, leave, when, choose, repeat, do_while, loop, walk, Stmts, done, next}
use Rattle.pawk_code.specs.Programs.{Selector, always, matching, between, Rule, Function}
use Rattle.pawk_admit.specs.declared.occurrence.Touch.{Touch}
use Rattle.pawk_admit.specs.declared.occurrence.Touch.TheVariants as touch
use Rattle.pawk_admit.specs.declared.occurrence.GlobalName.TheVariants as name
use Rattle.pawk_admit.specs.declared.occurrence.Occurrence.{Occurrence}
use Rattle.pawk_admit.specs.declared.occurrence.Occurrence.TheVariants as occurrence

abbrev pub of_scalar : Touch → ℕ → List Occurrence
of_scalar t n = occurrence.Touch t (name.Scalar n) ∷ []

abbrev pub of_array : Touch → Array → List Occurrence
of_array t (array.Global n) = occurrence.Touch t (name.Array n) ∷ []
of_array t (array.Local i) = []

abbrev pub of_variable : Touch → Variable → List Occurrence
of_variable t (variable.Global n) = of_scalar t n
of_variable t (variable.Local i) = []

abbrev pub of_leaf : Leaf → List Occurrence
of_leaf (number z) = []
of_leaf (text t) = []
of_leaf (global n) = of_scalar touch.Look n
of_leaf (local i) = []
of_leaf (special x) = []
of_leaf (field n) = []

-- what `a op= b` does with a, where its value is used
abbrev pub touch_by : Op → Touch
touch_by op.Add = touch.AddAndLook
touch_by op.Subtract = touch.AddAndLook
touch_by op.Multiply = touch.Assign
touch_by op.Divide = touch.Assign
touch_by op.Remainder = touch.Assign
touch_by op.Power = touch.Assign

abbrev mutual
  pub of_expression : Expr → List Occurrence
  of_expression (leaf l) = of_leaf l
  of_expression (numeric n) = of_numeric n
  of_expression (test t) = of_test t
  of_expression (textual t) = of_textual t
  of_expression (read p) = of_place touch.Look p
  of_expression (choice c a b) = of_expression c ++ of_expression a ++ of_expression b
  of_expression (assign p e) = of_place touch.Assign p ++ of_expression e
  of_expression (call f as') = occurrence.Call f ∷ of_arguments as'

  pub of_expressions : Exprs → List Occurrence
  of_expressions none = []
  of_expressions (more e es) = of_expression e ++ of_expressions es

  -- of a place with which this is done
  pub of_place : Touch → Place → List Occurrence
  of_place t (to_global n) = of_scalar t n
  of_place t (to_local i) = []
  of_place t (to_element a ks) = of_array t a ++ of_expressions ks
  of_place t (to_field e) = of_expression e

  pub of_numeric : Numeric → List Occurrence
  of_numeric (arithmetic o a b) = of_expression a ++ of_expression b
  of_numeric (signed s a) = of_expression a
  of_numeric (change o p e) = of_place (touch_by o) p ++ of_expression e
  of_numeric (step s p) = of_place touch.AddAndLook p
  of_numeric (function f) = of_function_of_number f
  of_numeric (split e a by) = of_expression e ++ of_array touch.Split a ++ of_fields_by by
  of_numeric (replace c p r to) = of_pattern p ++ of_expression r ++ of_place touch.Assign to
  of_numeric (find e p) = occurrence.Match ∷ (of_expression e ++ of_pattern p)

  pub of_function_of_number : NumericFunction → List Occurrence
  of_function_of_number (length_of e) = of_expression e
  of_function_of_number (index_of e f) = of_expression e ++ of_expression f
  of_function_of_number (whole e) = of_expression e

  pub of_test : Test → List Occurrence
  of_test (compare r a b) = of_expression a ++ of_expression b
  of_test (both a b) = of_expression a ++ of_expression b
  of_test (either a b) = of_expression a ++ of_expression b
  of_test (negation a) = of_expression a
  of_test (matches holds e p) = of_expression e ++ of_pattern p
  of_test (member a ks) = of_array touch.Test a ++ of_expressions ks

  pub of_textual : Textual → List Occurrence
  of_textual (join es) = of_expressions es
  of_textual (suffix e a) = of_expression e ++ of_expression a
  of_textual (substring e a b) = of_expression e ++ of_expression a ++ of_expression b
  of_textual (letters c e) = of_expression e
  of_textual (formatted f es) = of_format f ++ of_expressions es

  pub of_pattern : Pattern → List Occurrence
  of_pattern (fixed_pattern n) = []
  of_pattern (spelled_by e) = of_expression e

  pub of_fields_by : FieldsBy → List Occurrence
  of_fields_by by_fs = []
  of_fields_by (by_fixed n) = []
  of_fields_by (by_value e) = of_expression e

  pub of_format : Format → List Occurrence
  of_format (fixed_format t) = []
  of_format (format_of e) = of_expression e

  pub of_argument : Argument → List Occurrence
  of_argument (pass e) = of_expression e
  of_argument (pass_array a) = of_array touch.Pass a

  pub of_arguments : Arguments → List Occurrence
  of_arguments no_arguments = []
  of_arguments (more_arguments a as') = of_argument a ++ of_arguments as'

-- an assignment, an addition or a step here is one whose value is dropped
abbrev pub of_simple : Simple → List Occurrence
of_simple (drop e) = of_expression e
of_simple (set p e) = of_place touch.Set p ++ of_expression e
of_simple (add s p e) = of_place touch.Add p ++ of_expression e
of_simple (count s p) = of_place touch.Add p
of_simple (print calm es) = of_expressions es
of_simple (printf f calm es) = of_format f ++ of_expressions es
of_simple (delete a ks) = of_array touch.Delete a ++ of_expressions ks
of_simple (clear a) = of_array touch.Delete a

abbrev pub of_expression_if_any : Option Expr → List Occurrence
of_expression_if_any None = []
of_expression_if_any (Some e) = of_expression e

abbrev pub of_simple_if_any : Option Simple → List Occurrence
of_simple_if_any None = []
of_simple_if_any (Some s) = of_simple s

abbrev pub of_leave : Leave → List Occurrence
of_leave break = []
of_leave continue = []
of_leave next_record = []
of_leave next_file = occurrence.NextFile ∷ []
of_leave (exit e) = of_expression_if_any e
of_leave (return e) = of_expression_if_any e

abbrev pub of_head : Head → List Occurrence
of_head h = of_simple_if_any h.first ++ of_expression_if_any h.condition ++ of_simple_if_any h.last

abbrev mutual
  pub of_statement : Stmt → List Occurrence
  of_statement (simple s) = of_simple s
  of_statement (leave l) = of_leave l
  of_statement (when c a) = of_expression c ++ of_body a
  of_statement (choose c a b) = of_expression c ++ of_body a ++ of_body b
  of_statement (repeat c a) = of_expression c ++ of_body a
  of_statement (do_while a c) = of_expression c ++ of_body a
  of_statement (loop h a) = of_head h ++ of_body a
  of_statement (walk k a body) = of_variable touch.Assign k ++ of_array touch.Walk a ++ of_body body

  pub of_body : Stmts → List Occurrence
  of_body done = []
  of_body (next s rest) = of_statement s ++ of_body rest

abbrev pub of_selector : Selector → List Occurrence
of_selector always = []
of_selector (matching e) = of_expression e
of_selector (between p q) = occurrence.Range ∷ (of_expression p ++ of_expression q)

abbrev pub of_rules : List Rule → List Occurrence
of_rules [] = []
of_rules (r ∷ rs) = of_selector r.selector ++ of_body r.body ++ of_rules rs

abbrev pub of_function_if_any : Option Function → List Occurrence
of_function_if_any None = []
of_function_if_any (Some f) = of_body f.body

-- of the function of this slot
abbrev pub of_function : List Function → ℕ → List Occurrence
of_function functions f = of_function_if_any (slice_get functions f)
