-- The tree that code is another writing of: names are read back from their slots, and nothing else is forgotten.
use Rattle.std.specs.Prelude.{ℕ, ℤ, pos, negsuc, []}
use Rattle.pawk_lex.specs.declared.token.Builtin.TheVariants as b
use Rattle.pawk_syntax_tree.specs.declared.tree.Single.TheVariants as single
use Rattle.pawk_syntax_tree.specs.declared.tree.Double.TheVariants as double
use Rattle.pawk_syntax_tree.specs.Tree.{Tree, Trees, unary, binary, builtin}
use Rattle.pawk_syntax_tree.specs.Tree as tree
use Rattle.pawk_code.specs.Expressions.{Leaf, number, text, global, local, special, field, Expr, leaf, numeric, test, textual, read, choice, assign, call, Exprs, none, more, Place, to_global, to_local, to_element, to_field, Numeric, arithmetic, signed, change, step, function, split, replace, find, NumericFunction, length_of, index_of, whole, Test, compare, both, either, negation, matches, member, Textual, join, suffix, substring, letters, formatted, Pattern, fixed_pattern, spelled_by, FieldsBy, by_fs, by_fixed, by_value, Format, fixed_format, format_of, Argument, pass, pass_array, Arguments, no_arguments, more_arguments}
use Rattle.pawk_resolve.specs.Scopes.{Scope}
use Rattle.pawk_resolve_law.specs.Names.{name_at, special_name, array_name}
use Rattle.pawk_resolve_law.specs.Words.{sign_word, step_word, arithmetic_word, change_word, relation_word, match_word, count_word, case_word}

-- the numeral of a number; none writes a number below 0
abbrev pub numeral_of : ℤ → ℕ
numeral_of (pos n) = n
numeral_of (negsuc n) = 0

abbrev pub one : Tree → Trees
one a = tree.more a tree.none

abbrev pub two : Tree → Tree → Trees
two a d = tree.more a (one d)

abbrev pub three : Tree → Tree → Tree → Trees
three a d e = tree.more a (two d e)

module _ (s : Scope) where
  abbrev pub spelled_leaf : Leaf → Tree
  spelled_leaf (number n) = tree.number (numeral_of n)
  spelled_leaf (text x) = tree.string x
  spelled_leaf (global n) = tree.variable (name_at s.globals.scalars n)
  spelled_leaf (local n) = tree.variable (name_at s.parameters n)
  spelled_leaf (special x) = tree.variable (special_name x)
  spelled_leaf (field n) = unary single.Field (tree.number n)

  -- the expression between slashes that has this number
  abbrev pub expression_at : ℕ → Tree
  expression_at n = tree.ere (name_at s.globals.expressions n)

  abbrev mutual
    pub spelled : Expr → Tree
    spelled (leaf l) = spelled_leaf l
    spelled (numeric n) = spelled_numeric n
    spelled (test t) = spelled_test t
    spelled (textual t) = spelled_textual t
    spelled (read p) = spelled_place p
    spelled (choice c a d) = tree.choice (spelled c) (spelled a) (spelled d)
    spelled (assign p e) = binary double.Assign (spelled_place p) (spelled e)
    spelled (call f as') = tree.call (name_at s.globals.functions f) (spelled_arguments as')

    pub spelled_all : Exprs → Trees
    spelled_all none = tree.none
    spelled_all (more e es) = tree.more (spelled e) (spelled_all es)

    pub spelled_arguments : Arguments → Trees
    spelled_arguments no_arguments = tree.none
    spelled_arguments (more_arguments a as') = tree.more (spelled_argument a) (spelled_arguments as')

    pub spelled_argument : Argument → Tree
    spelled_argument (pass e) = spelled e
    spelled_argument (pass_array a) = tree.variable (array_name s a)

    pub spelled_place : Place → Tree
    spelled_place (to_global n) = tree.variable (name_at s.globals.scalars n)
    spelled_place (to_local n) = tree.variable (name_at s.parameters n)
    spelled_place (to_element a es) = tree.element (array_name s a) (spelled_all es)
    spelled_place (to_field e) = unary single.Field (spelled e)

    pub spelled_numeric : Numeric → Tree
    spelled_numeric (arithmetic o a d) = binary (arithmetic_word o) (spelled a) (spelled d)
    spelled_numeric (signed o a) = unary (sign_word o) (spelled a)
    spelled_numeric (change o p e) = binary (change_word o) (spelled_place p) (spelled e)
    spelled_numeric (step o p) = unary (step_word o) (spelled_place p)
    spelled_numeric (function f) = spelled_function f
    spelled_numeric (split e a by) =
        builtin b.Split (tree.more (spelled e) (tree.more (tree.variable (array_name s a)) (spelled_fields by)))
    spelled_numeric (replace c p e to) = builtin (count_word c) (three (spelled_pattern p) (spelled e) (spelled_place to))
    spelled_numeric (find e p) = builtin b.Match (two (spelled e) (spelled_pattern p))

    pub spelled_function : NumericFunction → Tree
    spelled_function (length_of a) = builtin b.Length (one (spelled a))
    spelled_function (index_of a d) = builtin b.Index (two (spelled a) (spelled d))
    spelled_function (whole a) = builtin b.Int (one (spelled a))

    pub spelled_test : Test → Tree
    spelled_test (compare r a d) = binary (relation_word r) (spelled a) (spelled d)
    spelled_test (both a d) = binary double.And (spelled a) (spelled d)
    spelled_test (either a d) = binary double.Or (spelled a) (spelled d)
    spelled_test (negation a) = unary single.Not (spelled a)
    spelled_test (matches holds a p) = binary (match_word holds) (spelled a) (spelled_pattern p)
    spelled_test (member a es) = tree.member (spelled_all es) (array_name s a)

    pub spelled_textual : Textual → Tree
    spelled_textual (join es) = spelled_join es
    spelled_textual (suffix a d) = builtin b.Substr (two (spelled a) (spelled d))
    spelled_textual (substring a d e) = builtin b.Substr (three (spelled a) (spelled d) (spelled e))
    spelled_textual (letters c a) = builtin (case_word c) (one (spelled a))
    spelled_textual (formatted f es) = builtin b.Sprintf (tree.more (spelled_format f) (spelled_all es))

    -- concatenation groups to the left
    pub spelled_join : Exprs → Tree
    spelled_join none = tree.string []
    spelled_join (more e es) = spelled_after es (spelled e)

    -- a tree and these after it
    pub spelled_after : Exprs → Tree → Tree
    spelled_after none t = t
    spelled_after (more e es) t = spelled_after es (binary double.Concatenate t (spelled e))

    pub spelled_pattern : Pattern → Tree
    spelled_pattern (fixed_pattern n) = expression_at n
    spelled_pattern (spelled_by a) = spelled a

    -- what separates fields, where it is said
    pub spelled_fields : FieldsBy → Trees
    spelled_fields by_fs = tree.none
    spelled_fields (by_fixed n) = one (expression_at n)
    spelled_fields (by_value a) = one (spelled a)

    pub spelled_format : Format → Tree
    spelled_format (fixed_format x) = tree.string x
    spelled_format (format_of a) = spelled a
