-- Expressions whose evaluation changes no variable and prints nothing; it may create elements, and may end in a fault.
use Rattle.std.specs.Prelude.{Bool, true, false, ◌&&◌}
use Rattle.pawk_code.specs.Expressions.{Expr, leaf, numeric, test, textual, read, choice, assign, call, Exprs, none, more, Place, to_global, to_local, to_element, to_field, Numeric, arithmetic, signed, change, step, function, split, replace, find, NumericFunction, length_of, index_of, whole, Test, compare, both, either, negation, matches, member, Textual, join, suffix, substring, letters, formatted, Pattern, fixed_pattern, spelled_by, Format, fixed_format, format_of}

abbrev mutual
  -- no call of a function of the program, no assignment, no `split`, `sub`, `gsub` or `match` inside
  pub is_calm : Expr → Bool
  is_calm (leaf l) = true
  is_calm (numeric n) = is_calm_numeric n
  is_calm (test t) = is_calm_test t
  is_calm (textual t) = is_calm_textual t
  is_calm (read p) = is_calm_place p
  is_calm (choice c a b) = is_calm c && (is_calm a && is_calm b)
  is_calm (assign p e) = false
  is_calm (call f as') = false

  pub are_calm : Exprs → Bool
  are_calm none = true
  are_calm (more e es) = is_calm e && are_calm es

  pub is_calm_place : Place → Bool
  is_calm_place (to_global n) = true
  is_calm_place (to_local n) = true
  is_calm_place (to_element a es) = are_calm es
  is_calm_place (to_field e) = is_calm e

  pub is_calm_numeric : Numeric → Bool
  is_calm_numeric (arithmetic op a b) = is_calm a && is_calm b
  is_calm_numeric (signed s a) = is_calm a
  is_calm_numeric (change op p e) = false
  is_calm_numeric (step s p) = false
  is_calm_numeric (function f) = is_calm_function f
  is_calm_numeric (split e a by) = false
  is_calm_numeric (replace c p e to) = false
  is_calm_numeric (find e p) = false

  pub is_calm_function : NumericFunction → Bool
  is_calm_function (length_of a) = is_calm a
  is_calm_function (index_of a b) = is_calm a && is_calm b
  is_calm_function (whole a) = is_calm a

  pub is_calm_test : Test → Bool
  is_calm_test (compare r a b) = is_calm a && is_calm b
  is_calm_test (both a b) = is_calm a && is_calm b
  is_calm_test (either a b) = is_calm a && is_calm b
  is_calm_test (negation a) = is_calm a
  is_calm_test (matches holds a p) = is_calm a && is_calm_pattern p
  is_calm_test (member a es) = are_calm es

  pub is_calm_textual : Textual → Bool
  is_calm_textual (join es) = are_calm es
  is_calm_textual (suffix a b) = is_calm a && is_calm b
  is_calm_textual (substring a b c) = is_calm a && (is_calm b && is_calm c)
  is_calm_textual (letters c a) = is_calm a
  is_calm_textual (formatted f es) = is_calm_format f && are_calm es

  pub is_calm_pattern : Pattern → Bool
  is_calm_pattern (fixed_pattern n) = true
  is_calm_pattern (spelled_by a) = is_calm a

  pub is_calm_format : Format → Bool
  is_calm_format (fixed_format x) = true
  is_calm_format (format_of a) = is_calm a
