-- Expressions of code put together, each in the sort of what it gives.
use Rattle.std.specs.Prelude.{ℕ, ℤ, pos, nat_lt, Bool, true, false, if◌then◌else◌}
use Rattle.pawk_lex.specs.declared.token.Builtin.{Builtin}
use Rattle.pawk_lex.specs.declared.token.Builtin.TheVariants as b
use Rattle.pawk_value.specs.Limits.{number_limit}
use Rattle.pawk_value.specs.declared.arithmetic.Op.TheVariants as op
use Rattle.pawk_syntax_tree.specs.declared.tree.Single.{Single}
use Rattle.pawk_syntax_tree.specs.declared.tree.Single.TheVariants as single
use Rattle.pawk_syntax_tree.specs.declared.tree.Double.{Double}
use Rattle.pawk_syntax_tree.specs.declared.tree.Double.TheVariants as double
use Rattle.pawk_syntax_tree.specs.Tree.{Tree, Trees, ere, variable}
use Rattle.pawk_syntax_tree.specs.Tree as tree
use Rattle.pawk_code.specs.declared.name.Array.{Array}
use Rattle.pawk_code.specs.declared.name.Array.TheVariants as array
use Rattle.pawk_code.specs.declared.word.Sign.TheVariants as sign
use Rattle.pawk_code.specs.declared.word.Step.TheVariants as by
use Rattle.pawk_code.specs.declared.word.Relation.TheVariants as relation
use Rattle.pawk_code.specs.declared.word.ReplacedMatches.TheVariants as count
use Rattle.pawk_code.specs.declared.word.Case.TheVariants as case
use Rattle.pawk_code.specs.Expressions.{number, text, global, local, field, Expr, leaf, numeric, test, textual, read, assign, Exprs, none, more, Place, to_global, to_local, to_field, arithmetic, signed, change, step, function, split, replace, find, length_of, index_of, whole, compare, both, either, negation, matches, join, suffix, substring, letters, formatted, Pattern, fixed_pattern, spelled_by, FieldsBy, by_fs, by_fixed, by_value, Format, fixed_format, format_of, Argument, pass, pass_array}
use Rattle.pawk_resolve.specs.declared.operation.Operation.{Operation}
use Rattle.pawk_resolve.specs.declared.operation.Operation.TheVariants as does
use Rattle.pawk_resolve.specs.Slots.{slot}
use Rattle.pawk_resolve.specs.Scopes.{Scope, array_of, is_array}

-- what is used where a checked program has nothing
abbrev pub nothing : Expr
nothing = leaf (number (pos 0))

-- a numeral is below the limit
abbrev pub numeral : ℕ → ℤ
numeral n = if nat_lt n number_limit then pos n else pos 0

-- a field by a constant number is a leaf
abbrev pub field_of : Expr → Expr
field_of (leaf (number (pos n))) = leaf (field n)
field_of e = read (to_field e)

-- what is assigned: what was read there
abbrev pub place_of : Expr → Place
place_of (read p) = p
place_of (leaf (global n)) = to_global n
place_of (leaf (local n)) = to_local n
place_of (leaf (field n)) = to_field (leaf (number (numeral n)))
place_of _ = to_field nothing

abbrev pub snoc : Exprs → Expr → Exprs
snoc none b = more b none
snoc (more a es) b = more a (snoc es b)

-- concatenation groups to the left, so a concatenation on the left goes on
abbrev pub parts_of : Expr → Exprs
parts_of (textual (join es)) = es
parts_of a = more a none

abbrev pub join_of : Expr → Expr → Expr
join_of a b = textual (join (snoc (parts_of a) b))

-- what an expression between slashes may stand for, beside the value that another expression has
abbrev pub pattern_of : Scope → Tree → Expr → Pattern
pattern_of s (ere x) e = fixed_pattern (slot s.globals.expressions x)
pattern_of s _ e = spelled_by e

abbrev pub fields_of : Scope → Tree → Expr → FieldsBy
fields_of s (ere x) e = by_fixed (slot s.globals.expressions x)
fields_of s _ e = by_value e

abbrev pub array_named : Scope → Tree → Array
array_named s (variable x) = array_of s x
array_named s _ = array.Global 0

-- a name of an array is passed by reference
abbrev pub argument_named : Bool → Array → Expr → Argument
argument_named true a e = pass_array a
argument_named false a e = pass e

abbrev pub argument_of : Scope → Tree → Expr → Argument
argument_of s (variable x) e = argument_named (is_array s x) (array_of s x) e
argument_of s _ e = pass e

-- a constant format is read once
abbrev pub format_by : Expr → Format
format_by (leaf (text x)) = fixed_format x
format_by e = format_of e

abbrev pub unary_of : Single → Expr → Expr
unary_of single.Field e = field_of e
unary_of single.Not e = test (negation e)
unary_of single.Plus e = numeric (signed sign.Plus e)
unary_of single.Minus e = numeric (signed sign.Minus e)
unary_of single.IncrementBefore e = numeric (step by.IncrementBefore (place_of e))
unary_of single.DecrementBefore e = numeric (step by.DecrementBefore (place_of e))
unary_of single.IncrementAfter e = numeric (step by.IncrementAfter (place_of e))
unary_of single.DecrementAfter e = numeric (step by.DecrementAfter (place_of e))

-- what an operator with two operands does
abbrev pub operation : Double → Operation
operation double.Or = does.Or
operation double.And = does.And
operation double.Match = does.Match true
operation double.NotMatch = does.Match false
operation double.Less = does.Compare relation.Less
operation double.LessEqual = does.Compare relation.LessEqual
operation double.Equal = does.Compare relation.Equal
operation double.NotEqual = does.Compare relation.NotEqual
operation double.Greater = does.Compare relation.Greater
operation double.GreaterEqual = does.Compare relation.GreaterEqual
operation double.Concatenate = does.Join
operation double.Add = does.Arithmetic op.Add
operation double.Subtract = does.Arithmetic op.Subtract
operation double.Multiply = does.Arithmetic op.Multiply
operation double.Divide = does.Arithmetic op.Divide
operation double.Remainder = does.Arithmetic op.Remainder
operation double.Power = does.Arithmetic op.Power
operation double.Assign = does.Assign
operation double.AddAssign = does.Change op.Add
operation double.SubtractAssign = does.Change op.Subtract
operation double.MultiplyAssign = does.Change op.Multiply
operation double.DivideAssign = does.Change op.Divide
operation double.RemainderAssign = does.Change op.Remainder
operation double.PowerAssign = does.Change op.Power

-- an operation on the codes a and d, of which the second is of this tree
abbrev pub binary_of : Scope → Operation → Expr → Tree → Expr → Expr
binary_of s does.Or a t d = test (either a d)
binary_of s does.And a t d = test (both a d)
binary_of s (does.Match holds) a t d = test (matches holds a (pattern_of s t d))
binary_of s (does.Compare r) a t d = test (compare r a d)
binary_of s does.Join a t d = join_of a d
binary_of s (does.Arithmetic o) a t d = numeric (arithmetic o a d)
binary_of s does.Assign a t d = assign (place_of a) d
binary_of s (does.Change o) a t d = numeric (change o (place_of a) d)

-- a built-in function of one argument
abbrev pub builtin_of_one : Builtin → Expr → Expr
builtin_of_one b.Length a = numeric (function (length_of a))
builtin_of_one b.Int a = numeric (function (whole a))
builtin_of_one b.Tolower a = textual (letters case.Lower a)
builtin_of_one b.Toupper a = textual (letters case.Upper a)
builtin_of_one _ a = nothing

-- of two, of which the second is of this tree
abbrev pub builtin_of_two : Scope → Builtin → Expr → Tree → Expr → Expr
builtin_of_two s b.Index a t d = numeric (function (index_of a d))
builtin_of_two s b.Substr a t d = textual (suffix a d)
builtin_of_two s b.Split a t d = numeric (split a (array_named s t) by_fs)
builtin_of_two s b.Match a t d = numeric (find a (pattern_of s t d))
builtin_of_two s _ a t d = nothing

-- of three, which are of these trees
abbrev pub builtin_of_three : Scope → Builtin → Tree → Expr → Tree → Expr → Tree → Expr → Expr
builtin_of_three s b.Substr t a u d v e = textual (substring a d e)
builtin_of_three s b.Split t a u d v e = numeric (split a (array_named s u) (fields_of s v e))
builtin_of_three s b.Sub t a u d v e = numeric (replace count.First (pattern_of s t a) d (place_of e))
builtin_of_three s b.Gsub t a u d v e = numeric (replace count.All (pattern_of s t a) d (place_of e))
builtin_of_three s _ t a u d v e = nothing

-- the format, and what it shows
abbrev pub sprintf_of : Exprs → Expr
sprintf_of none = nothing
sprintf_of (more f es) = textual (formatted (format_by f) es)

-- of as many as are there
abbrev pub builtin_of_some : Scope → Builtin → Trees → Exprs → Expr
builtin_of_some s f (tree.more t tree.none) (more a none) = builtin_of_one f a
builtin_of_some s f (tree.more t (tree.more u tree.none)) (more a (more d none)) = builtin_of_two s f a u d
builtin_of_some s f (tree.more t (tree.more u (tree.more v tree.none))) (more a (more d (more e none))) =
    builtin_of_three s f t a u d v e
builtin_of_some s f _ _ = nothing

abbrev pub builtin_of : Scope → Builtin → Trees → Exprs → Expr
builtin_of s b.Sprintf ts es = sprintf_of es
builtin_of s f ts es = builtin_of_some s f ts es
