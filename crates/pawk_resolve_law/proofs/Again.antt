-- Code in normal form is the code of the tree that it spells.
use Rattle.std.proofs.Common.{◌≡◌, ◌<◌, ℕ, true, false, pos, negsuc, Some, None, refl, sym, ap, ap₂, ◌∙◌}
use Rattle.std.specs.Prelude.{length}
use Rattle.pawk_lex.specs.Bytes.{Text}
use Rattle.pawk_lex.specs.declared.token.Builtin.TheVariants as b
use Rattle.pawk_value.specs.declared.arithmetic.Op.{Op}
use Rattle.pawk_value.specs.declared.arithmetic.Op.TheVariants as op
use Rattle.pawk_syntax_tree.specs.declared.tree.Double.{Double}
use Rattle.pawk_syntax_tree.specs.declared.tree.Double.TheVariants as double
use Rattle.pawk_syntax_tree.specs.Tree.{Tree, Trees, ere, variable, unary, binary, builtin}
use Rattle.pawk_syntax_tree.specs.Tree as tree
use Rattle.pawk_code.specs.declared.name.Array.{Array}
use Rattle.pawk_code.specs.declared.name.Array.TheVariants as array
use Rattle.pawk_code.specs.declared.leaf.Special.{Special}
use Rattle.pawk_code.specs.declared.word.Sign.TheVariants as sign
use Rattle.pawk_code.specs.declared.word.Step.TheVariants as by
use Rattle.pawk_code.specs.declared.word.Relation.{Relation}
use Rattle.pawk_code.specs.declared.word.Relation.TheVariants as relation
use Rattle.pawk_code.specs.declared.word.ReplacedMatches.{ReplacedMatches}
use Rattle.pawk_code.specs.declared.word.ReplacedMatches.TheVariants as count
use Rattle.pawk_code.specs.declared.word.Case.TheVariants as case
use Rattle.pawk_code.specs.Expressions.{Leaf, number, text, global, local, special, field, Expr, leaf, numeric, test, textual, read, choice, assign, call, Exprs, none, more, Place, to_global, to_local, to_element, to_field, Numeric, arithmetic, signed, change, step, function, split, replace, find, NumericFunction, length_of, index_of, whole, Test, compare, both, either, negation, matches, member, Textual, join, suffix, substring, letters, formatted, Pattern, fixed_pattern, spelled_by, FieldsBy, by_fs, by_fixed, by_value, Format, fixed_format, format_of, Argument, pass, pass_array, Arguments, no_arguments, more_arguments}
use Rattle.pawk_resolve.specs.declared.operation.Operation.TheVariants as does
use Rattle.pawk_resolve.specs.Slots.{place, slot}
use Rattle.pawk_resolve.specs.Scopes.{Scope, is_array, special_of, leaf_at, leaf_of, array_at, array_of}
use Rattle.pawk_resolve.specs.Sorted.{field_of, place_of, snoc, join_of, pattern_of, fields_of, argument_named, argument_of, format_by, operation, binary_of}
use Rattle.pawk_resolve.specs.Resolved.{resolved, resolved_all, resolved_arguments}
use Rattle.pawk_resolve_law.specs.Names.{name_at, special_name, array_name, AreTables}
use Rattle.pawk_resolve_law.specs.Words.{arithmetic_word, change_word, relation_word}
use Rattle.pawk_resolve_law.specs.Spelled.{spelled_leaf, spelled, spelled_all, spelled_arguments, spelled_argument, spelled_place, spelled_numeric, spelled_function, spelled_test, spelled_textual, spelled_after, spelled_pattern, spelled_fields, spelled_format}
use Rattle.pawk_resolve_law.specs.Fits.{Varies, IsNoText, IsNoJoin, FitsGlobal, FitsLocal, FitsLeaf, FitsArray, Fits, FitsAll, FitsArguments, FitsArgument, FitsPlace, FitsRead, FitsNumeric, FitsFunction, FitsTest, FitsTextual, FitsPattern, FitsFields, FitsFormat}
use Rattle.pawk_resolve_law.proofs.Lookups.{place_at, slot_at, special_named, no_special}
use Rattle.pawk_resolve_law.proofs.Normal.{numeral_is}

-- ---- words

arithmetic_is : (o : Op) → operation (arithmetic_word o) ≡ does.Arithmetic o
arithmetic_is op.Add = refl
arithmetic_is op.Subtract = refl
arithmetic_is op.Multiply = refl
arithmetic_is op.Divide = refl
arithmetic_is op.Remainder = refl
arithmetic_is op.Power = refl

change_is : (o : Op) → operation (change_word o) ≡ does.Change o
change_is op.Add = refl
change_is op.Subtract = refl
change_is op.Multiply = refl
change_is op.Divide = refl
change_is op.Remainder = refl
change_is op.Power = refl

relation_is : (r : Relation) → operation (relation_word r) ≡ does.Compare r
relation_is relation.Less = refl
relation_is relation.LessEqual = refl
relation_is relation.Equal = refl
relation_is relation.NotEqual = refl
relation_is relation.Greater = refl
relation_is relation.GreaterEqual = refl

-- ---- names

pub local_is : (s : Scope) → AreTables s → (n : ℕ) → FitsLocal s n → place s.parameters (name_at s.parameters n) ≡ Some n
local_is s t n h = place_at s.parameters n t.parameters h.0

pub slot_is : (s : Scope) → AreTables s → (n : ℕ) → FitsGlobal s n → slot s.globals.scalars (name_at s.globals.scalars n) ≡ n
slot_is s t n h = slot_at s.globals.scalars n t.scalars h.0

local_again : (s : Scope) → AreTables s → (n : ℕ) → FitsLocal s n → leaf_of s (name_at s.parameters n) ≡ local n
local_again s t n h = rw (local_is s t n h) refl

global_again : (s : Scope) → AreTables s → (n : ℕ) → FitsGlobal s n → leaf_of s (name_at s.globals.scalars n) ≡ global n
global_again s t n h =
    let none_such : special_of (name_at s.globals.scalars n) ≡ None =
    no_special s.globals.scalars t.no_scalar (name_at s.globals.scalars n) n (place_at s.globals.scalars n t.scalars h.0) in
    ap₂ (λ o p. leaf_at o p (slot s.globals.scalars (name_at s.globals.scalars n))) h.1 none_such ∙ ap global (slot_is s t n h)

special_again : (s : Scope) → AreTables s → (x : Special) → leaf_of s (special_name x) ≡ special x
special_again s t x = ap₂ (λ o p. leaf_at o p (slot s.globals.scalars (special_name x))) (t.no_parameter x) (special_named x)

pub array_again : (s : Scope) → AreTables s → (a : Array) → FitsArray s a → array_of s (array_name s a) ≡ a
array_again s t (array.Global n) h =
    ap (λ o. array_at o (slot s.globals.arrays (name_at s.globals.arrays n))) h.1 ∙ ap array.Global (slot_at s.globals.arrays n t.arrays h.0)
array_again s t (array.Local n) h = ap (λ o. array_at o (slot s.globals.arrays (name_at s.parameters n))) (place_at s.parameters n t.parameters h.0)

expression_again : (s : Scope) → AreTables s → (n : ℕ) → n < length s.globals.expressions → slot s.globals.expressions (name_at s.globals.expressions n) ≡ n
expression_again s t n h = slot_at s.globals.expressions n t.expressions h

leaf_again : (s : Scope) → AreTables s → (l : Leaf) → FitsLeaf s l → resolved s (spelled_leaf s l) ≡ leaf l
leaf_again s t (number (pos n)) h = ap (λ m. leaf (number m)) (numeral_is n h)
leaf_again s t (number (negsuc n)) h = absurd h
leaf_again s t (text x) h = refl
leaf_again s t (global n) h = ap leaf (global_again s t n h)
leaf_again s t (local n) h = ap leaf (local_again s t n h)
leaf_again s t (special x) h = ap leaf (special_again s t x)
leaf_again s t (field n) h = ap (λ m. field_of (leaf (number m))) (numeral_is n h)

-- ---- what code spells beside names

-- no name alone, and no expression between slashes alone
IsWhole : Tree → Type 0
IsWhole (variable x) = ⊥
IsWhole (ere x) = ⊥
IsWhole _ = Unit {0}

IsNoLeaf : Expr → Type 0
IsNoLeaf (leaf l) = ⊥
IsNoLeaf _ = Unit {0}

whole_after : (s : Scope) (es : Exprs) (t : Tree) → IsWhole t → IsWhole (spelled_after s es t)
unfolding IsWhole
whole_after s none t h = h
whole_after s (more e es) t h = whole_after s es (binary double.Concatenate t (spelled s e)) tt

whole_read : (s : Scope) (p : Place) → FitsRead s p → IsWhole (spelled_place s p)
unfolding IsWhole
whole_read s (to_global n) h = absurd h
whole_read s (to_local n) h = absurd h
whole_read s (to_element a es) h = tt
whole_read s (to_field e) h = tt

whole_numeric : (s : Scope) (n : Numeric) → IsWhole (spelled_numeric s n)
unfolding IsWhole
whole_numeric s (arithmetic o a d) = tt
whole_numeric s (signed o a) = tt
whole_numeric s (change o p e) = tt
whole_numeric s (step o p) = tt
whole_numeric s (function (length_of a)) = tt
whole_numeric s (function (index_of a d)) = tt
whole_numeric s (function (whole a)) = tt
whole_numeric s (split e a x) = tt
whole_numeric s (replace c p e to) = tt
whole_numeric s (find e p) = tt

whole_test : (s : Scope) (x : Test) → IsWhole (spelled_test s x)
unfolding IsWhole
whole_test s (compare r a d) = tt
whole_test s (both a d) = tt
whole_test s (either a d) = tt
whole_test s (negation a) = tt
whole_test s (matches holds a p) = tt
whole_test s (member a es) = tt

whole_textual : (s : Scope) (x : Textual) → FitsTextual s x → IsWhole (spelled_textual s x)
unfolding IsWhole
whole_textual s (join none) h = absurd h.0
whole_textual s (join (more a none)) h = absurd h.0
whole_textual s (join (more a (more d es))) h = whole_after s es (binary double.Concatenate (spelled s a) (spelled s d)) tt
whole_textual s (suffix a d) h = tt
whole_textual s (substring a d e) h = tt
whole_textual s (letters c a) h = tt
whole_textual s (formatted f es) h = tt

is_whole : (s : Scope) (e : Expr) → IsNoLeaf e → Fits s e → IsWhole (spelled s e)
unfolding IsWhole IsNoLeaf
is_whole s (leaf l) i h = absurd i
is_whole s (numeric n) i h = whole_numeric s n
is_whole s (test x) i h = whole_test s x
is_whole s (textual x) i h = whole_textual s x h
is_whole s (read p) i h = whole_read s p h
is_whole s (choice c a d) i h = tt
is_whole s (assign p e) i h = tt
is_whole s (call f as') i h = tt

-- a whole tree has its value also where an expression between slashes is one
pattern_whole : (s : Scope) (t : Tree) (e : Expr) → IsWhole t → pattern_of s t e ≡ spelled_by e
unfolding IsWhole
pattern_whole s (ere x) e h = absurd h
pattern_whole s _ e h = refl

fields_whole : (s : Scope) (t : Tree) (e : Expr) → IsWhole t → fields_of s t e ≡ by_value e
unfolding IsWhole
fields_whole s (ere x) e h = absurd h
fields_whole s _ e h = refl

argument_whole : (s : Scope) (t : Tree) (e : Expr) → IsWhole t → argument_of s t e ≡ pass e
unfolding IsWhole
argument_whole s (variable x) e h = absurd h
argument_whole s _ e h = refl

pattern_value : (s : Scope) (a x : Expr) → Fits s a → pattern_of s (spelled s a) x ≡ spelled_by x
unfolding IsNoLeaf
pattern_value s (leaf (number n)) x h = refl
pattern_value s (leaf (text y)) x h = refl
pattern_value s (leaf (global n)) x h = refl
pattern_value s (leaf (local n)) x h = refl
pattern_value s (leaf (special y)) x h = refl
pattern_value s (leaf (field n)) x h = refl
pattern_value s (numeric n) x h = pattern_whole s (spelled s (numeric n)) x (is_whole s (numeric n) tt h)
pattern_value s (test y) x h = pattern_whole s (spelled s (test y)) x (is_whole s (test y) tt h)
pattern_value s (textual y) x h = pattern_whole s (spelled s (textual y)) x (is_whole s (textual y) tt h)
pattern_value s (read p) x h = pattern_whole s (spelled s (read p)) x (is_whole s (read p) tt h)
pattern_value s (choice c a d) x h = refl
pattern_value s (assign p e) x h = refl
pattern_value s (call f as') x h = refl

fields_value : (s : Scope) (a x : Expr) → Fits s a → fields_of s (spelled s a) x ≡ by_value x
unfolding IsNoLeaf
fields_value s (leaf (number n)) x h = refl
fields_value s (leaf (text y)) x h = refl
fields_value s (leaf (global n)) x h = refl
fields_value s (leaf (local n)) x h = refl
fields_value s (leaf (special y)) x h = refl
fields_value s (leaf (field n)) x h = refl
fields_value s (numeric n) x h = fields_whole s (spelled s (numeric n)) x (is_whole s (numeric n) tt h)
fields_value s (test y) x h = fields_whole s (spelled s (test y)) x (is_whole s (test y) tt h)
fields_value s (textual y) x h = fields_whole s (spelled s (textual y)) x (is_whole s (textual y) tt h)
fields_value s (read p) x h = fields_whole s (spelled s (read p)) x (is_whole s (read p) tt h)
fields_value s (choice c a d) x h = refl
fields_value s (assign p e) x h = refl
fields_value s (call f as') x h = refl

name_passed : (s : Scope) (y : Text) (x : Expr) → is_array s y ≡ false → argument_of s (variable y) x ≡ pass x
name_passed s y x h = ap (λ g. argument_named g (array_of s y) x) h

value_passed : (s : Scope) → AreTables s → (a x : Expr) → Fits s a → argument_of s (spelled s a) x ≡ pass x
unfolding IsNoLeaf
value_passed s t (leaf (number n)) x h = refl
value_passed s t (leaf (text y)) x h = refl
value_passed s t (leaf (global n)) x h = name_passed s (name_at s.globals.scalars n) x h.2
value_passed s t (leaf (local n)) x h = name_passed s (name_at s.parameters n) x h.1
value_passed s t (leaf (special y)) x h = name_passed s (special_name y) x (t.no_array y)
value_passed s t (leaf (field n)) x h = refl
value_passed s t (numeric n) x h = argument_whole s (spelled s (numeric n)) x (is_whole s (numeric n) tt h)
value_passed s t (test y) x h = argument_whole s (spelled s (test y)) x (is_whole s (test y) tt h)
value_passed s t (textual y) x h = argument_whole s (spelled s (textual y)) x (is_whole s (textual y) tt h)
value_passed s t (read p) x h = argument_whole s (spelled s (read p)) x (is_whole s (read p) tt h)
value_passed s t (choice c a d) x h = refl
value_passed s t (assign p e) x h = refl
value_passed s t (call f as') x h = refl

array_is : (s : Scope) (a : Array) → FitsArray s a → is_array s (array_name s a) ≡ true
array_is s (array.Global n) h = h.2
array_is s (array.Local n) h = h.1

array_passed : (s : Scope) → AreTables s → (a : Array) (x : Expr) → FitsArray s a → argument_of s (variable (array_name s a)) x ≡ pass_array a
array_passed s t a x h = ap₂ (λ g y. argument_named g y x) (array_is s a h) (array_again s t a h)

-- ---- codes put together

field_place : (s : Scope) (e : Expr) → Fits s e → place_of (field_of e) ≡ to_field e
field_place s (leaf (number (pos n))) h = ap (λ m. to_field (leaf (number m))) (numeral_is n h)
field_place s (leaf (number (negsuc n))) h = absurd h
field_place s _ h = refl

field_read : (e : Expr) → Varies e → field_of e ≡ read (to_field e)
field_read (leaf (number n)) h = absurd h
field_read _ h = refl

format_again_of : (e : Expr) → IsNoText e → format_by e ≡ format_of e
format_again_of (leaf (text x)) h = absurd h
format_again_of _ h = refl

join_first : (a d : Expr) → IsNoJoin a → join_of a d ≡ textual (join (more a (more d none)))
join_first (textual (join es)) d h = absurd h
join_first _ d h = refl

abbrev append : Exprs → Exprs → Exprs
append none ds = ds
append (more a as') ds = more a (append as' ds)

append_none : (as' : Exprs) → append as' none ≡ as'
append_none none = refl
append_none (more a as') = ap (more a) (append_none as')

append_more : (as' : Exprs) (e : Expr) (es : Exprs) → append (snoc as' e) es ≡ append as' (more e es)
append_more none e es = refl
append_more (more a as') e es = ap (more a) (append_more as' e es)

-- an operator with two operands, by the codes of both
binary_again : (s : Scope) (o : Double) (x y : Tree) (a d : Expr) → resolved s x ≡ a → resolved s y ≡ d → resolved s (binary o x y) ≡ binary_of s (operation o) a y d
binary_again s o x y a d e f = ap₂ (λ p q. binary_of s (operation o) p y q) e f

pair_arithmetic : (s : Scope) (o : Op) (x y : Tree) (a d : Expr) → resolved s x ≡ a → resolved s y ≡ d → resolved s (binary (arithmetic_word o) x y) ≡ numeric (arithmetic o a d)
pair_arithmetic s o x y a d e f = binary_again s (arithmetic_word o) x y a d e f ∙ ap (λ w. binary_of s w a y d) (arithmetic_is o)

pair_compare : (s : Scope) (r : Relation) (x y : Tree) (a d : Expr) → resolved s x ≡ a → resolved s y ≡ d → resolved s (binary (relation_word r) x y) ≡ test (compare r a d)
pair_compare s r x y a d e f = binary_again s (relation_word r) x y a d e f ∙ ap (λ w. binary_of s w a y d) (relation_is r)

pair_change : (s : Scope) (o : Op) (x y : Tree) (p : Place) (d : Expr) → place_of (resolved s x) ≡ p → resolved s y ≡ d → resolved s (binary (change_word o) x y) ≡ numeric (change o p d)
pair_change s o x y p d e f = ap (λ w. binary_of s w (resolved s x) y (resolved s y)) (change_is o) ∙ ap₂ (λ q z. numeric (change o q z)) e f

-- what follows a concatenation
after_one : (s : Scope) (x y : Tree) (xs : Exprs) (e : Expr) → resolved s x ≡ textual (join xs) → resolved s y ≡ e →
    resolved s (binary double.Concatenate x y) ≡ textual (join (snoc xs e))
after_one s x y xs e p q = ap₂ (λ u v. join_of u v) p q

three_choice : (a x d y e z : Expr) → a ≡ x → d ≡ y → e ≡ z → choice a d e ≡ choice x y z
three_choice a x d y e z p q r = ap₂ (λ u v. u v) (ap₂ (λ u v. choice u v) p q) r

three_part : (a x d y e z : Expr) → a ≡ x → d ≡ y → e ≡ z → textual (substring a d e) ≡ textual (substring x y z)
three_part a x d y e z p q r = ap₂ (λ u v. textual (u v)) (ap₂ (λ u v. substring u v) p q) r

three_split : (a x : Expr) (d y : Array) (e z : FieldsBy) → a ≡ x → d ≡ y → e ≡ z → numeric (split a d e) ≡ numeric (split x y z)
three_split a x d y e z p q r = ap₂ (λ u v. numeric (u v)) (ap₂ (λ u v. split u v) p q) r

three_replace : (c : ReplacedMatches) (a x : Pattern) (d y : Expr) (e z : Place) → a ≡ x → d ≡ y → e ≡ z → numeric (replace c a d e) ≡ numeric (replace c x y z)
three_replace c a x d y e z p q r = ap₂ (λ u v. numeric (u v)) (ap₂ (λ u v. replace c u v) p q) r

-- ---- expressions

module _ (s : Scope) (t : AreTables s) where
  mutual
    pub again : (e : Expr) → Fits s e → resolved s (spelled s e) ≡ e
    again (leaf l) h = leaf_again s t l h
    again (numeric n) h = again_numeric n h
    again (test x) h = again_test x h
    again (textual x) h = again_textual x h
    again (read p) h = again_read p h
    again (choice c a d) h = three_choice _ _ _ _ _ _ (again c h.0) (again a h.1) (again d h.2)
    again (assign p e) h = ap₂ (λ q x. assign q x) (again_place p h.0) (again e h.1)
    again (call f as') h = ap₂ (λ n xs. call n xs) (slot_at s.globals.functions f t.functions h.0) (again_arguments as' h.1)

    pub again_all : (es : Exprs) → FitsAll s es → resolved_all s (spelled_all s es) ≡ es
    again_all none h = refl
    again_all (more e es) h = ap₂ (λ x xs. more x xs) (again e h.0) (again_all es h.1)

    again_arguments : (as' : Arguments) → FitsArguments s as' → resolved_arguments s (spelled_arguments s as') ≡ as'
    again_arguments no_arguments h = refl
    again_arguments (more_arguments a as') h = ap₂ (λ x xs. more_arguments x xs) (again_argument a h.0) (again_arguments as' h.1)

    again_argument : (a : Argument) → FitsArgument s a → argument_of s (spelled_argument s a) (resolved s (spelled_argument s a)) ≡ a
    again_argument (pass e) h = value_passed s t e (resolved s (spelled s e)) h ∙ ap pass (again e h)
    again_argument (pass_array a) h = array_passed s t a (resolved s (variable (array_name s a))) h

    pub again_place : (p : Place) → FitsPlace s p → place_of (resolved s (spelled_place s p)) ≡ p
    again_place (to_global n) h = ap (λ l. place_of (leaf l)) (global_again s t n h)
    again_place (to_local n) h = ap (λ l. place_of (leaf l)) (local_again s t n h)
    again_place (to_element a es) h = ap₂ (λ x xs. to_element x xs) (array_again s t a h.0) (again_all es h.1)
    again_place (to_field e) h = ap (λ x. place_of (field_of x)) (again e h) ∙ field_place s e h

    again_read : (p : Place) → FitsRead s p → resolved s (spelled_place s p) ≡ read p
    again_read (to_global n) h = absurd h
    again_read (to_local n) h = absurd h
    again_read (to_element a es) h = ap₂ (λ x xs. read (to_element x xs)) (array_again s t a h.0) (again_all es h.1)
    again_read (to_field e) h = ap field_of (again e h.1) ∙ field_read e h.0

    again_numeric : (n : Numeric) → FitsNumeric s n → resolved s (spelled_numeric s n) ≡ numeric n
    again_numeric (arithmetic o a d) h = pair_arithmetic s o (spelled s a) (spelled s d) a d (again a h.0) (again d h.1)
    again_numeric (signed sign.Plus a) h = ap (λ x. numeric (signed sign.Plus x)) (again a h)
    again_numeric (signed sign.Minus a) h = ap (λ x. numeric (signed sign.Minus x)) (again a h)
    again_numeric (change o p e) h = pair_change s o (spelled_place s p) (spelled s e) p e (again_place p h.0) (again e h.1)
    again_numeric (step by.IncrementBefore p) h = ap (λ x. numeric (step by.IncrementBefore x)) (again_place p h)
    again_numeric (step by.DecrementBefore p) h = ap (λ x. numeric (step by.DecrementBefore x)) (again_place p h)
    again_numeric (step by.IncrementAfter p) h = ap (λ x. numeric (step by.IncrementAfter x)) (again_place p h)
    again_numeric (step by.DecrementAfter p) h = ap (λ x. numeric (step by.DecrementAfter x)) (again_place p h)
    again_numeric (function f) h = again_function f h
    again_numeric (split e a x) h = again_fields x h.2 (spelled s e) (array_name s a) ∙ three_split _ _ _ _ _ _ (again e h.0) (array_again s t a h.1) refl
    again_numeric (replace count.First p e to) h = three_replace count.First _ _ _ _ _ _ (again_pattern p h.0) (again e h.1) (again_place to h.2)
    again_numeric (replace count.All p e to) h = three_replace count.All _ _ _ _ _ _ (again_pattern p h.0) (again e h.1) (again_place to h.2)
    again_numeric (find e p) h = ap₂ (λ x q. numeric (find x q)) (again e h.0) (again_pattern p h.1)

    again_function : (f : NumericFunction) → FitsFunction s f → resolved s (spelled_function s f) ≡ numeric (function f)
    again_function (length_of a) h = ap (λ x. numeric (function (length_of x))) (again a h)
    again_function (index_of a d) h = ap₂ (λ x y. numeric (function (index_of x y))) (again a h.0) (again d h.1)
    again_function (whole a) h = ap (λ x. numeric (function (whole x))) (again a h)

    again_test : (x : Test) → FitsTest s x → resolved s (spelled_test s x) ≡ test x
    again_test (compare r a d) h = pair_compare s r (spelled s a) (spelled s d) a d (again a h.0) (again d h.1)
    again_test (both a d) h = ap₂ (λ x y. test (both x y)) (again a h.0) (again d h.1)
    again_test (either a d) h = ap₂ (λ x y. test (either x y)) (again a h.0) (again d h.1)
    again_test (negation a) h = ap (λ x. test (negation x)) (again a h)
    again_test (matches true a p) h = ap₂ (λ x q. test (matches true x q)) (again a h.0) (again_pattern p h.1)
    again_test (matches false a p) h = ap₂ (λ x q. test (matches false x q)) (again a h.0) (again_pattern p h.1)
    again_test (member a es) h = ap₂ (λ y xs. test (member y xs)) (array_again s t a h.0) (again_all es h.1)

    again_textual : (x : Textual) → FitsTextual s x → resolved s (spelled_textual s x) ≡ textual x
    again_textual (join none) h = absurd h.0
    again_textual (join (more a none)) h = absurd h.0
    again_textual (join (more a (more d es))) h =
        again_after es h.1.1.1 (binary double.Concatenate (spelled s a) (spelled s d)) (more a (more d none))
        (ap₂ (λ u v. join_of u v) (again a h.1.0) (again d h.1.1.0) ∙ join_first a d h.0)
    again_textual (suffix a d) h = ap₂ (λ x y. textual (suffix x y)) (again a h.0) (again d h.1)
    again_textual (substring a d e) h = three_part _ _ _ _ _ _ (again a h.0) (again d h.1) (again e h.2)
    again_textual (letters case.Lower a) h = ap (λ x. textual (letters case.Lower x)) (again a h)
    again_textual (letters case.Upper a) h = ap (λ x. textual (letters case.Upper x)) (again a h)
    again_textual (formatted f es) h = ap₂ (λ g xs. textual (formatted g xs)) (again_format f h.0) (again_all es h.1)

    -- these, after the tree of a concatenation of those
    again_after : (es : Exprs) → FitsAll s es → (x : Tree) (xs : Exprs) → resolved s x ≡ textual (join xs) → resolved s (spelled_after s es x) ≡ textual (join (append xs es))
    again_after none h x xs k = k ∙ ap (λ ys. textual (join ys)) (sym (append_none xs))
    again_after (more e es) h x xs k =
        again_after es h.1 (binary double.Concatenate x (spelled s e)) (snoc xs e) (after_one s x (spelled s e) xs e k (again e h.0))
        ∙ ap (λ ys. textual (join ys)) (append_more xs e es)

    again_pattern : (p : Pattern) → FitsPattern s p → pattern_of s (spelled_pattern s p) (resolved s (spelled_pattern s p)) ≡ p
    again_pattern (fixed_pattern n) h = ap fixed_pattern (expression_again s t n h)
    again_pattern (spelled_by a) h = pattern_value s a (resolved s (spelled s a)) h ∙ ap spelled_by (again a h)

    again_fields : (x : FieldsBy) → FitsFields s x → (e : Tree) (y : Text) →
        resolved s (builtin b.Split (tree.more e (tree.more (variable y) (spelled_fields s x)))) ≡ numeric (split (resolved s e) (array_of s y) x)
    again_fields by_fs h e y = refl
    again_fields (by_fixed n) h e y = ap (λ m. numeric (split (resolved s e) (array_of s y) (by_fixed m))) (expression_again s t n h)
    again_fields (by_value a) h e y =
        ap (λ z. numeric (split (resolved s e) (array_of s y) z)) (fields_value s a (resolved s (spelled s a)) h ∙ ap by_value (again a h))

    pub again_format : (f : Format) → FitsFormat s f → format_by (resolved s (spelled_format s f)) ≡ f
    again_format (fixed_format x) h = refl
    again_format (format_of a) h = ap format_by (again a h.1) ∙ format_again_of a h.0

  -- so there is one
  pub one_code : (c d : Expr) → Fits s c → Fits s d → spelled s c ≡ spelled s d → c ≡ d
  one_code c d h k e = sym (again c h) ∙ ap (resolved s) e ∙ again d k
