-- Where the text of a program reads NR (POSIX.1-2017, awk, "Variables and Special Variables").
use Rattle.std.specs.Prelude.{Bool, true, false, ◌||◌, List, [], ◌∷◌, Option, Some, None}
use Rattle.pawk_code.specs.declared.leaf.Special.{Special}
use Rattle.pawk_code.specs.declared.leaf.Special.TheVariants as variable
use Rattle.pawk_code.specs.Expressions.{Leaf, number, text, global, local, special, field}
use Rattle.pawk_code.specs.Expressions.{Expr, leaf, numeric, test, textual, read, choice, assign, call, Exprs, none, more}
use Rattle.pawk_code.specs.Expressions.{Place, to_global, to_local, to_element, to_field, Numeric, arithmetic, signed, change, step}
use Rattle.pawk_code.specs.Expressions.{function, split, replace, find, NumericFunction, length_of, index_of, whole, Test, compare}
use Rattle.pawk_code.specs.Expressions.{both, either, negation, matches, member, Textual, join, suffix, substring, letters, formatted}
use Rattle.pawk_code.specs.Expressions.{Pattern, fixed_pattern, spelled_by, FieldsBy, by_fs, by_fixed, by_value, Format, fixed_format}
use Rattle.pawk_code.specs.Expressions.{format_of, Argument, pass, pass_array, Arguments, no_arguments, more_arguments}
use Rattle.pawk_code.specs.Statements.{Simple, drop, set, add, count, print, printf, delete, clear, Leave, break, continue, next_record}
use Rattle.pawk_code.specs.Statements.{next_file, exit, return, Head, Stmt, simple, leave, when, choose, repeat, do_while, loop, walk}
use Rattle.pawk_code.specs.Statements.{Stmts, done, next}
use Rattle.pawk_code.specs.Programs.{Selector, always, matching, between, Rule, Function, Code}

abbrev pub is_number_of_records : Special → Bool
is_number_of_records variable.Nr = true
is_number_of_records variable.Nf = false
is_number_of_records variable.Fnr = false
is_number_of_records variable.Filename = false
is_number_of_records variable.Rstart = false
is_number_of_records variable.Rlength = false

abbrev pub in_leaf : Leaf → Bool
in_leaf (number z) = false
in_leaf (text t) = false
in_leaf (global n) = false
in_leaf (local i) = false
in_leaf (special x) = is_number_of_records x
in_leaf (field n) = false

abbrev mutual
  pub in_expression : Expr → Bool
  in_expression (leaf l) = in_leaf l
  in_expression (numeric n) = in_numeric n
  in_expression (test t) = in_test t
  in_expression (textual t) = in_textual t
  in_expression (read p) = in_place p
  in_expression (choice c a b) = in_expression c || in_expression a || in_expression b
  in_expression (assign p e) = in_place p || in_expression e
  in_expression (call f as') = in_arguments as'

  pub in_expressions : Exprs → Bool
  in_expressions none = false
  in_expressions (more e es) = in_expression e || in_expressions es

  pub in_place : Place → Bool
  in_place (to_global n) = false
  in_place (to_local i) = false
  in_place (to_element a ks) = in_expressions ks
  in_place (to_field e) = in_expression e

  pub in_numeric : Numeric → Bool
  in_numeric (arithmetic op a b) = in_expression a || in_expression b
  in_numeric (signed s a) = in_expression a
  in_numeric (change op p e) = in_place p || in_expression e
  in_numeric (step s p) = in_place p
  in_numeric (function f) = in_function_of_number f
  in_numeric (split e a by) = in_expression e || in_fields_by by
  in_numeric (replace c p r to) = in_pattern p || in_expression r || in_place to
  in_numeric (find e p) = in_expression e || in_pattern p

  pub in_function_of_number : NumericFunction → Bool
  in_function_of_number (length_of e) = in_expression e
  in_function_of_number (index_of e f) = in_expression e || in_expression f
  in_function_of_number (whole e) = in_expression e

  pub in_test : Test → Bool
  in_test (compare r a b) = in_expression a || in_expression b
  in_test (both a b) = in_expression a || in_expression b
  in_test (either a b) = in_expression a || in_expression b
  in_test (negation a) = in_expression a
  in_test (matches holds e p) = in_expression e || in_pattern p
  in_test (member a ks) = in_expressions ks

  pub in_textual : Textual → Bool
  in_textual (join es) = in_expressions es
  in_textual (suffix e a) = in_expression e || in_expression a
  in_textual (substring e a b) = in_expression e || in_expression a || in_expression b
  in_textual (letters c e) = in_expression e
  in_textual (formatted f es) = in_format f || in_expressions es

  pub in_pattern : Pattern → Bool
  in_pattern (fixed_pattern n) = false
  in_pattern (spelled_by e) = in_expression e

  pub in_fields_by : FieldsBy → Bool
  in_fields_by by_fs = false
  in_fields_by (by_fixed n) = false
  in_fields_by (by_value e) = in_expression e

  pub in_format : Format → Bool
  in_format (fixed_format t) = false
  in_format (format_of e) = in_expression e

  pub in_argument : Argument → Bool
  in_argument (pass e) = in_expression e
  in_argument (pass_array a) = false

  pub in_arguments : Arguments → Bool
  in_arguments no_arguments = false
  in_arguments (more_arguments a as') = in_argument a || in_arguments as'

abbrev pub in_simple : Simple → Bool
in_simple (drop e) = in_expression e
in_simple (set p e) = in_place p || in_expression e
in_simple (add s p e) = in_place p || in_expression e
in_simple (count s p) = in_place p
in_simple (print calm es) = in_expressions es
in_simple (printf f calm es) = in_format f || in_expressions es
in_simple (delete a ks) = in_expressions ks
in_simple (clear a) = false

abbrev pub in_expression_if_any : Option Expr → Bool
in_expression_if_any None = false
in_expression_if_any (Some e) = in_expression e

abbrev pub in_simple_if_any : Option Simple → Bool
in_simple_if_any None = false
in_simple_if_any (Some s) = in_simple s

abbrev pub in_leave : Leave → Bool
in_leave break = false
in_leave continue = false
in_leave next_record = false
in_leave next_file = false
in_leave (exit e) = in_expression_if_any e
in_leave (return e) = in_expression_if_any e

abbrev pub in_head : Head → Bool
in_head h = in_simple_if_any h.first || in_expression_if_any h.condition || in_simple_if_any h.last

abbrev mutual
  pub in_statement : Stmt → Bool
  in_statement (simple s) = in_simple s
  in_statement (leave l) = in_leave l
  in_statement (when c a) = in_expression c || in_body a
  in_statement (choose c a b) = in_expression c || in_body a || in_body b
  in_statement (repeat c a) = in_expression c || in_body a
  in_statement (do_while a c) = in_expression c || in_body a
  in_statement (loop h a) = in_head h || in_body a
  in_statement (walk k a body) = in_body body

  pub in_body : Stmts → Bool
  in_body done = false
  in_body (next s rest) = in_statement s || in_body rest

abbrev pub in_selector : Selector → Bool
in_selector always = false
in_selector (matching e) = in_expression e
in_selector (between p q) = in_expression p || in_expression q

abbrev pub in_rules : List Rule → Bool
in_rules [] = false
in_rules (r ∷ rs) = in_selector r.selector || in_body r.body || in_rules rs

abbrev pub in_functions : List Function → Bool
in_functions [] = false
in_functions (f ∷ fs) = in_body f.body || in_functions fs

-- Whether a rule, its pattern or its action, or a function reads NR, whether or not a rule calls it. BEGIN and END do not count.
abbrev pub reads_number : Code → Bool
reads_number code = in_rules code.rules || in_functions code.functions
