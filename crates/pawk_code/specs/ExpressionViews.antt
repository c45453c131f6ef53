-- Expressions of the code as the expressions that they are.
use Rattle.std.specs.Prelude.{List, map}
use Rattle.pawk_code.specs.declared.leaf.Leaf.{Leaf as CodeLeaf}
use Rattle.pawk_code.specs.declared.leaf.Leaf.TheVariants as code_leaf
use Rattle.pawk_code.specs.declared.expression.Lvalue.{Lvalue as CodePlace, Row_of-Expr, end_of-Expr, more_of-Expr}
use Rattle.pawk_code.specs.declared.expression.Lvalue as code_place
use Rattle.pawk_code.specs.declared.expression.Pattern.{Pattern as CodePattern}
use Rattle.pawk_code.specs.declared.expression.Pattern as code_pattern
use Rattle.pawk_code.specs.declared.expression.FieldsBy.{FieldsBy as CodeFieldsBy}
use Rattle.pawk_code.specs.declared.expression.FieldsBy as code_fields
use Rattle.pawk_code.specs.declared.expression.Format.{Format as CodeFormat}
use Rattle.pawk_code.specs.declared.expression.Format as code_format
use Rattle.pawk_code.specs.declared.expression.NumericFunction.{NumericFunction as CodeNumericFunction}
use Rattle.pawk_code.specs.declared.expression.NumericFunction as code_function
use Rattle.pawk_code.specs.declared.expression.Numeric.{Numeric as CodeNumeric}
use Rattle.pawk_code.specs.declared.expression.Numeric as code_numeric
use Rattle.pawk_code.specs.declared.expression.Test.{Test as CodeTest}
use Rattle.pawk_code.specs.declared.expression.Test as code_test
use Rattle.pawk_code.specs.declared.expression.Textual.{Textual as CodeTextual}
use Rattle.pawk_code.specs.declared.expression.Textual as code_textual
use Rattle.pawk_code.specs.declared.expression.Expr.{Expr as CodeExpr, Row_of-Argument, end_of-Argument, more_of-Argument}
use Rattle.pawk_code.specs.declared.expression.Expr as code
use Rattle.pawk_code.specs.declared.expression.Argument.{Argument as CodeArgument}
use Rattle.pawk_code.specs.declared.expression.Argument as code_argument
use Rattle.pawk_code.specs.Expressions.{Leaf, number, text, global, local, special, field, Expr, leaf, numeric, test, textual, read, choice, assign, call, Exprs, none, more, Place, to_global, to_local, to_element, to_field, Numeric, arithmetic, signed, change, step, function, split, replace, find, NumericFunction, length_of, index_of, whole, Test, compare, both, either, negation, matches, member, Textual, join, suffix, substring, letters, formatted, Pattern, fixed_pattern, spelled_by, FieldsBy, by_fs, by_fixed, by_value, Format, fixed_format, format_of, Argument, pass, pass_array, Arguments, no_arguments, more_arguments}

abbrev pub leaf_view : CodeLeaf → Leaf
leaf_view (code_leaf.Number n) = number n
leaf_view (code_leaf.Text v) = text v.items
leaf_view (code_leaf.Global n) = global n
leaf_view (code_leaf.Local n) = local n
leaf_view (code_leaf.Special x) = special x
leaf_view (code_leaf.Field n) = field n

abbrev mutual
  pub view : CodeExpr → Expr
  view (code.Leaf l) = leaf (leaf_view l)
  view (code.Numeric n) = numeric (numeric_view n)
  view (code.Test t) = test (test_view t)
  view (code.Textual t) = textual (textual_view t)
  view (code.Read p) = read (place_view p)
  view (code.Choice' p c q a r b) = choice (view c) (view a) (view b)
  view (code.Assign' to p e) = assign (place_view to) (view e)
  view (code.Call' f _ row) = call f (argument_row row)

  pub expr_row : {n : _} → Row_of-Expr n → Exprs
  expr_row end_of-Expr = none
  expr_row (more_of-Expr e rest) = more (view e) (expr_row rest)

  pub argument_row : {n : _} → Row_of-Argument n → Arguments
  argument_row end_of-Argument = no_arguments
  argument_row (more_of-Argument a rest) = more_arguments (argument_view a) (argument_row rest)

  pub argument_view : CodeArgument → Argument
  argument_view (code_argument.Value e) = pass (view e)
  argument_view (code_argument.Array a) = pass_array a

  pub place_view : CodePlace → Place
  place_view (code_place.Global n) = to_global n
  place_view (code_place.Local n) = to_local n
  place_view (code_place.Element' a _ row) = to_element a (expr_row row)
  place_view (code_place.Field' p e) = to_field (view e)

  pub numeric_view : CodeNumeric → Numeric
  numeric_view (code_numeric.Arithmetic' op p a q b) = arithmetic op (view a) (view b)
  numeric_view (code_numeric.Sign' s p a) = signed s (view a)
  numeric_view (code_numeric.Change' op to p a) = change op (place_view to) (view a)
  numeric_view (code_numeric.Step s to) = step s (place_view to)
  numeric_view (code_numeric.Function f) = function (function_view f)
  numeric_view (code_numeric.Split' p a x by) = split (view a) x (fields_view by)
  numeric_view (code_numeric.Replace' c e p a to) = replace c (pattern_view e) (view a) (place_view to)
  numeric_view (code_numeric.Find' p a e) = find (view a) (pattern_view e)

  pub function_view : CodeNumericFunction → NumericFunction
  function_view (code_function.Length' p a) = length_of (view a)
  function_view (code_function.Index' p a q b) = index_of (view a) (view b)
  function_view (code_function.Whole' p a) = whole (view a)

  pub test_view : CodeTest → Test
  test_view (code_test.Compare' r p a q b) = compare r (view a) (view b)
  test_view (code_test.And' p a q b) = both (view a) (view b)
  test_view (code_test.Or' p a q b) = either (view a) (view b)
  test_view (code_test.Not' p a) = negation (view a)
  test_view (code_test.Match' holds p a e) = matches holds (view a) (pattern_view e)
  test_view (code_test.In' x _ row) = member x (expr_row row)

  pub textual_view : CodeTextual → Textual
  textual_view (code_textual.Join' _ row) = join (expr_row row)
  textual_view (code_textual.Suffix' p a q b) = suffix (view a) (view b)
  textual_view (code_textual.Substring' p a q b r c) = substring (view a) (view b) (view c)
  textual_view (code_textual.Case' c p a) = letters c (view a)
  textual_view (code_textual.Format' f _ row) = formatted (format_view f) (expr_row row)

  pub pattern_view : CodePattern → Pattern
  pattern_view (code_pattern.Fixed n) = fixed_pattern n
  pattern_view (code_pattern.Value' p a) = spelled_by (view a)

  pub fields_view : CodeFieldsBy → FieldsBy
  fields_view code_fields.Fs = by_fs
  fields_view (code_fields.Fixed n) = by_fixed n
  fields_view (code_fields.Value' p a) = by_value (view a)

  pub format_view : CodeFormat → Format
  format_view (code_format.Fixed f) = fixed_format f.text.items
  format_view (code_format.Value' p a) = format_of (view a)

abbrev pub views : List CodeExpr → List Expr
views = map view

abbrev pub argument_views : List CodeArgument → List Argument
argument_views = map argument_view
