-- Code in normal form: each slot is in its table, each name of its kind, and what can be written in two ways is written in one.
use Rattle.std.specs.Prelude.{◌≡◌, ◌<◌, ℕ, ℤ, pos, negsuc, true, false, None, length}
use Rattle.pawk_value.specs.Limits.{number_limit}
use Rattle.pawk_code.specs.declared.name.Array.{Array}
use Rattle.pawk_code.specs.declared.name.Array.TheVariants as array
use Rattle.pawk_code.specs.Expressions.{Leaf, number, text, global, local, special, field, Expr, leaf, numeric, test, textual, read, choice, assign, call, Exprs, none, more, Place, to_global, to_local, to_element, to_field, Numeric, arithmetic, signed, change, step, function, split, replace, find, NumericFunction, length_of, index_of, whole, Test, compare, both, either, negation, matches, member, Textual, join, suffix, substring, letters, formatted, Pattern, fixed_pattern, spelled_by, FieldsBy, by_fs, by_fixed, by_value, Format, fixed_format, format_of, Argument, pass, pass_array, Arguments, no_arguments, more_arguments}
use Rattle.pawk_resolve.specs.Slots.{place}
use Rattle.pawk_resolve.specs.Scopes.{Scope, is_array}
use Rattle.pawk_resolve_law.specs.Names.{name_at}

-- a number that a numeral may write
abbrev pub IsConstant : ℤ → Type 0
IsConstant (pos n) = n < number_limit
IsConstant (negsuc n) = ⊥

-- an index that is no constant
abbrev pub Varies : Expr → Type 0
Varies (leaf (number n)) = ⊥
Varies _ = Unit {0}

-- a format that is no constant text
abbrev pub IsNoText : Expr → Type 0
IsNoText (leaf (text x)) = ⊥
IsNoText _ = Unit {0}

abbrev pub IsNoJoin : Expr → Type 0
IsNoJoin (textual (join es)) = ⊥
IsNoJoin _ = Unit {0}

-- two parts at least, of which the first is no concatenation itself
abbrev pub AreParts : Exprs → Type 0
AreParts (more a (more d es)) = IsNoJoin a
AreParts _ = ⊥

module _ (s : Scope) where
  -- a global scalar, which no parameter hides
  abbrev pub FitsGlobal : ℕ → Type 0
  FitsGlobal n = (n < length s.globals.scalars) × (place s.parameters (name_at s.globals.scalars n) ≡ None)
      × (is_array s (name_at s.globals.scalars n) ≡ false)

  -- a parameter that is a scalar
  abbrev pub FitsLocal : ℕ → Type 0
  FitsLocal n = (n < length s.parameters) × (is_array s (name_at s.parameters n) ≡ false)

  -- an array
  abbrev pub FitsArray : Array → Type 0
  FitsArray (array.Global n) = (n < length s.globals.arrays) × (place s.parameters (name_at s.globals.arrays n) ≡ None)
      × (is_array s (name_at s.globals.arrays n) ≡ true)
  FitsArray (array.Local n) = (n < length s.parameters) × (is_array s (name_at s.parameters n) ≡ true)

  abbrev pub FitsLeaf : Leaf → Type 0
  FitsLeaf (number n) = IsConstant n
  FitsLeaf (text x) = Unit {0}
  FitsLeaf (global n) = FitsGlobal n
  FitsLeaf (local n) = FitsLocal n
  FitsLeaf (special x) = Unit {0}
  FitsLeaf (field n) = n < number_limit

  abbrev mutual
    pub Fits : Expr → Type 0
    Fits (leaf l) = FitsLeaf l
    Fits (numeric n) = FitsNumeric n
    Fits (test t) = FitsTest t
    Fits (textual t) = FitsTextual t
    Fits (read p) = FitsRead p
    Fits (choice c a d) = Fits c × Fits a × Fits d
    Fits (assign p e) = FitsPlace p × Fits e
    Fits (call f as') = (f < length s.globals.functions) × FitsArguments as'

    pub FitsAll : Exprs → Type 0
    FitsAll none = Unit {0}
    FitsAll (more e es) = Fits e × FitsAll es

    pub FitsArguments : Arguments → Type 0
    FitsArguments no_arguments = Unit {0}
    FitsArguments (more_arguments a as') = FitsArgument a × FitsArguments as'

    pub FitsArgument : Argument → Type 0
    FitsArgument (pass e) = Fits e
    FitsArgument (pass_array a) = FitsArray a

    -- what is assigned
    pub FitsPlace : Place → Type 0
    FitsPlace (to_global n) = FitsGlobal n
    FitsPlace (to_local n) = FitsLocal n
    FitsPlace (to_element a es) = FitsArray a × FitsAll es
    FitsPlace (to_field e) = Fits e

    -- what is read: a variable, and a field by a constant number, is a leaf
    pub FitsRead : Place → Type 0
    FitsRead (to_global n) = ⊥
    FitsRead (to_local n) = ⊥
    FitsRead (to_element a es) = FitsArray a × FitsAll es
    FitsRead (to_field e) = Varies e × Fits e

    pub FitsNumeric : Numeric → Type 0
    FitsNumeric (arithmetic o a d) = Fits a × Fits d
    FitsNumeric (signed o a) = Fits a
    FitsNumeric (change o p e) = FitsPlace p × Fits e
    FitsNumeric (step o p) = FitsPlace p
    FitsNumeric (function f) = FitsFunction f
    FitsNumeric (split e a by) = Fits e × FitsArray a × FitsFields by
    FitsNumeric (replace c p e to) = FitsPattern p × Fits e × FitsPlace to
    FitsNumeric (find e p) = Fits e × FitsPattern p

    pub FitsFunction : NumericFunction → Type 0
    FitsFunction (length_of a) = Fits a
    FitsFunction (index_of a d) = Fits a × Fits d
    FitsFunction (whole a) = Fits a

    pub FitsTest : Test → Type 0
    FitsTest (compare r a d) = Fits a × Fits d
    FitsTest (both a d) = Fits a × Fits d
    FitsTest (either a d) = Fits a × Fits d
    FitsTest (negation a) = Fits a
    FitsTest (matches holds a p) = Fits a × FitsPattern p
    FitsTest (member a es) = FitsArray a × FitsAll es

    pub FitsTextual : Textual → Type 0
    FitsTextual (join es) = AreParts es × FitsAll es
    FitsTextual (suffix a d) = Fits a × Fits d
    FitsTextual (substring a d e) = Fits a × Fits d × Fits e
    FitsTextual (letters c a) = Fits a
    FitsTextual (formatted f es) = FitsFormat f × FitsAll es

    pub FitsPattern : Pattern → Type 0
    FitsPattern (fixed_pattern n) = n < length s.globals.expressions
    FitsPattern (spelled_by a) = Fits a

    pub FitsFields : FieldsBy → Type 0
    FitsFields by_fs = Unit {0}
    FitsFields (by_fixed n) = n < length s.globals.expressions
    FitsFields (by_value a) = Fits a

    -- a constant format is kept as its text
    pub FitsFormat : Format → Type 0
    FitsFormat (fixed_format x) = Unit {0}
    FitsFormat (format_of a) = IsNoText a × Fits a
