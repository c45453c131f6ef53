-- Where everything is permitted, every text is allowed.
use Rattle.std.proofs.Common.{List, [], ◌∷◌, Option, Some, None}
use Rattle.std.specs.Prelude.{slice_get}
use Rattle.pawk_code.specs.declared.name.Array.{Array}
use Rattle.pawk_code.specs.declared.name.Array.TheVariants as array
use Rattle.pawk_code.specs.declared.name.Variable.{Variable}
use Rattle.pawk_code.specs.declared.name.Variable.TheVariants as variable
use Rattle.pawk_code.specs.Expressions.{Expr, leaf, numeric, test, textual, read, choice, assign, call, Leaf, number, text, global, local, special, field, Exprs, none, more, Place, to_global, to_local, to_element, to_field, Numeric, arithmetic, signed, change, step, function, split, replace, find, NumericFunction, length_of, index_of, whole, Test, compare, both, either, negation, matches, member, Textual, join, suffix, substring, letters, formatted, Pattern, fixed_pattern, spelled_by, FieldsBy, by_fs, by_fixed, by_value, Format, fixed_format, format_of, Argument, pass, pass_array, Arguments, no_arguments, more_arguments}
use Rattle.pawk_code.specs.Statements.{Simple, drop, set, add, count, print, printf, delete, clear, Leave, break, continue, next_record, next_file, exit, return, Head, Stmt, simple, leave, when, choose, repeat, do_while, loop, walk, Stmts, done, next}
use Rattle.pawk_code.specs.Programs.{Selector, always, matching, between, Rule, Function, Code}
use Rattle.pawk_store.specs.Builtins.{sign_of}
use Rattle.pawk_store.specs.Lockstep.{Resource, Access, looks, reads, olds, writes, changes, tests, removes, clears, walks, runs}
use Rattle.pawk_store.specs.Allows.{TouchesArray, TouchesVariable, TouchesField, Touches, AllowsWhole, AllowsJoining, AllowsLeaf, Allows, AllowsEach, AllowsPlace, AllowsNumeric, AllowsFunction, AllowsTest, AllowsTextual, AllowsPattern, AllowsFieldsBy, AllowsFormat, AllowsArgument, AllowsArguments, AllowsSimple, AllowsLeave, AllowsSimpleIfAny, AllowsIfAny, AllowsHead, AllowsStmt, AllowsStmts, AllowsBody, AllowsSelector, AllowsRules, AllowsActions, AllowsCode}

abbrev pub everything : Access → Resource → Type 0
everything access resource = Unit {0}

any_array : (access : Access) (a : Array) → TouchesArray everything access a
any_array access (array.Global n) = tt
any_array access (array.Local i) = tt

any_variable : (access : Access) (v : Variable) → TouchesVariable everything access v
any_variable access (variable.Global n) = tt
any_variable access (variable.Local i) = tt

any_field : (access : Access) → TouchesField everything access
any_field looks = tt
any_field reads = tt
any_field olds = tt
any_field writes = (tt, tt)
any_field (changes sign) = (tt, tt)
any_field tests = tt
any_field removes = tt
any_field clears = tt
any_field walks = tt
any_field runs = tt

any_touch : (access : Access) (p : Place) → Touches everything access p
any_touch access (to_global n) = tt
any_touch access (to_local i) = tt
any_touch access (to_element a ks) = any_array access a
any_touch access (to_field e) = any_field access

any_whole : (a : Array) → AllowsWhole everything a
any_whole (array.Global n) = λ access. tt
any_whole (array.Local i) = tt

any_joining : (es : Exprs) → AllowsJoining everything es
any_joining none = tt
any_joining (more e none) = tt
any_joining (more e (more f es)) = tt

any_leaf : (l : Leaf) → AllowsLeaf everything l
any_leaf (number z) = tt
any_leaf (text t) = tt
any_leaf (global n) = tt
any_leaf (local i) = tt
any_leaf (special x) = tt
any_leaf (field n) = tt

mutual
  any_expr : (e : Expr) → Allows everything e
  any_expr (leaf l) = any_leaf l
  any_expr (numeric n) = any_numeric n
  any_expr (test t) = any_test t
  any_expr (textual t) = any_textual t
  any_expr (read p) = (any_place p, any_touch reads p)
  any_expr (choice c a b) = (any_expr c, any_expr a, any_expr b)
  any_expr (assign p e) = (any_place p, any_expr e, any_touch writes p)
  any_expr (call f as') = (tt, any_arguments as')

  any_each : (es : Exprs) → AllowsEach everything es
  any_each none = tt
  any_each (more e es) = (any_expr e, any_each es)

  any_place : (p : Place) → AllowsPlace everything p
  any_place (to_global n) = tt
  any_place (to_local i) = tt
  any_place (to_element a ks) = (any_each ks, any_joining ks)
  any_place (to_field e) = any_expr e

  any_numeric : (n : Numeric) → AllowsNumeric everything n
  any_numeric (arithmetic op a b) = (any_expr a, any_expr b)
  any_numeric (signed s a) = any_expr a
  any_numeric (change op p e) = (any_place p, any_expr e, any_touch olds p, any_touch writes p)
  any_numeric (step s p) = (any_place p, any_touch olds p, any_touch writes p)
  any_numeric (function f) = any_function f
  any_numeric (split e a by) = (any_expr e, any_fields_by by, any_array clears a, any_array writes a)
  any_numeric (replace c p r to) = (any_pattern p, any_expr r, any_place to, any_touch reads to, any_touch writes to)
  any_numeric (find e p) = (any_expr e, any_pattern p, tt)

  any_function : (f : NumericFunction) → AllowsFunction everything f
  any_function (length_of e) = any_expr e
  any_function (index_of e f) = (any_expr e, any_expr f)
  any_function (whole e) = any_expr e

  any_test : (t : Test) → AllowsTest everything t
  any_test (compare r a b) = (any_expr a, any_expr b)
  any_test (both a b) = (any_expr a, any_expr b)
  any_test (either a b) = (any_expr a, any_expr b)
  any_test (negation a) = any_expr a
  any_test (matches holds e p) = (any_expr e, any_pattern p)
  any_test (member a ks) = (any_each ks, any_joining ks, any_array tests a)

  any_textual : (t : Textual) → AllowsTextual everything t
  any_textual (join es) = any_each es
  any_textual (suffix e a) = (any_expr e, any_expr a)
  any_textual (substring e a b) = (any_expr e, any_expr a, any_expr b)
  any_textual (letters c e) = any_expr e
  any_textual (formatted f es) = (any_format f, any_each es)

  any_pattern : (p : Pattern) → AllowsPattern everything p
  any_pattern (fixed_pattern n) = tt
  any_pattern (spelled_by e) = any_expr e

  any_fields_by : (by : FieldsBy) → AllowsFieldsBy everything by
  any_fields_by by_fs = tt
  any_fields_by (by_fixed n) = tt
  any_fields_by (by_value e) = any_expr e

  any_format : (f : Format) → AllowsFormat everything f
  any_format (fixed_format t) = tt
  any_format (format_of e) = any_expr e

  any_argument : (a : Argument) → AllowsArgument everything a
  any_argument (pass e) = any_expr e
  any_argument (pass_array a) = any_whole a

  any_arguments : (xs : Arguments) → AllowsArguments everything xs
  any_arguments no_arguments = tt
  any_arguments (more_arguments a as') = (any_argument a, any_arguments as')

any_simple : (s : Simple) → AllowsSimple everything s
any_simple (drop e) = any_expr e
any_simple (set p e) = (any_place p, any_expr e, any_touch writes p)
any_simple (add s p e) = (any_place p, any_expr e, any_touch (changes s) p)
any_simple (count s p) = (any_place p, any_touch (changes (sign_of s)) p)
any_simple (print calm es) = (any_each es, tt, tt)
any_simple (printf f calm es) = (any_format f, any_each es)
any_simple (delete a ks) = (any_each ks, any_joining ks, any_array removes a)
any_simple (clear a) = any_array clears a

any_leave : (l : Leave) → AllowsLeave everything l
any_leave break = tt
any_leave continue = tt
any_leave next_record = tt
any_leave next_file = tt
any_leave (exit None) = tt
any_leave (exit (Some e)) = any_expr e
any_leave (return None) = tt
any_leave (return (Some e)) = any_expr e

any_simple_if_any : (s : Option Simple) → AllowsSimpleIfAny everything s
any_simple_if_any None = tt
any_simple_if_any (Some s) = any_simple s

any_expr_if_any : (e : Option Expr) → AllowsIfAny everything e
any_expr_if_any None = tt
any_expr_if_any (Some e) = any_expr e

any_head : (h : Head) → AllowsHead everything h
any_head h = (any_simple_if_any h.first, any_expr_if_any h.condition, any_simple_if_any h.last)

mutual
  any_stmt : (s : Stmt) → AllowsStmt everything s
  any_stmt (simple s) = any_simple s
  any_stmt (leave l) = any_leave l
  any_stmt (when c a) = (any_expr c, any_stmts a)
  any_stmt (choose c a b) = (any_expr c, any_stmts a, any_stmts b)
  any_stmt (repeat c a) = (any_expr c, any_stmts a)
  any_stmt (do_while a c) = (any_stmts a, any_expr c)
  any_stmt (loop head a) = (any_head head, any_stmts a)
  any_stmt (walk k a body) = (any_variable writes k, any_array walks a, any_stmts body)

  any_stmts : (ss : Stmts) → AllowsStmts everything ss
  any_stmts done = tt
  any_stmts (next s rest) = (any_stmt s, any_stmts rest)

any_body : (f : Option Function) → AllowsBody everything f
any_body None = tt
any_body (Some f) = any_stmts f.body

any_selector : (s : Selector) → AllowsSelector everything s
any_selector always = tt
any_selector (matching e) = any_expr e
any_selector (between p q) = (any_expr p, any_expr q, tt)

any_rules : (rules : List Rule) → AllowsRules everything rules
any_rules [] = tt
any_rules (r ∷ rs) = (any_selector r.selector, any_stmts r.body, any_rules rs)

any_actions : (bodies : List Stmts) → AllowsActions everything bodies
any_actions [] = tt
any_actions (a ∷ rest) = (any_stmts a, any_actions rest)

pub any_code : (code : Code) → AllowsCode everything code
any_code code = (any_actions code.begins, tt, (tt, λ f _. any_body (slice_get code.functions f), any_rules code.rules), any_actions code.ends)
