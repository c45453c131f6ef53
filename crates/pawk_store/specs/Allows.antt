-- What the text of a program may do to the resources. A place is touched where it is read or changed, which its subscripts
-- or its index do not say.
use Rattle.std.specs.Prelude.{ℕ, List, [], ◌∷◌, Option, Some, None, slice_get}
use Rattle.pawk_store.specs.Slots.{fs_slot, ofs_slot, ors_slot, rs_slot, subsep_slot}
use Rattle.pawk_code.specs.declared.name.Array.{Array}
use Rattle.pawk_code.specs.declared.name.Array.TheVariants as array
use Rattle.pawk_code.specs.declared.name.Variable.{Variable}
use Rattle.pawk_code.specs.declared.name.Variable.TheVariants as variable
use Rattle.pawk_code.specs.Expressions.{Expr, leaf, numeric, test, textual, read, choice, assign, call, Leaf, number, text, global, local, special, field, Exprs, none, more, Place, to_global, to_local, to_element, to_field, Numeric, arithmetic, signed, change, step, function, split, replace, find, NumericFunction, length_of, index_of, whole, Test, compare, both, either, negation, matches, member, Textual, join, suffix, substring, letters, formatted, Pattern, fixed_pattern, spelled_by, FieldsBy, by_fs, by_fixed, by_value, Format, fixed_format, format_of, Argument, pass, pass_array, Arguments, no_arguments, more_arguments}
use Rattle.pawk_code.specs.Statements.{Simple, drop, set, add, count, print, printf, delete, clear, Leave, break, continue, next_record, next_file, exit, return, Head, Stmt, simple, leave, when, choose, repeat, do_while, loop, walk, Stmts, done, next}
use Rattle.pawk_code.specs.Programs.{Selector, always, matching, between, Rule, Function, Code}
use Rattle.pawk_store.specs.Builtins.{sign_of}
use Rattle.pawk_store.specs.Lockstep.{Resource, variable_slot, array_slot, function_slot, last_match, rule_ranges, rest_of_file, Access, looks, reads, olds, writes, changes, tests, removes, clears, walks, runs}

-- what is asked of a scalar where an element would be asked so: its value is looked at
abbrev pub scalar_access : Access → Access
scalar_access looks = looks
scalar_access reads = looks
scalar_access olds = looks
scalar_access writes = writes
scalar_access (changes sign) = changes sign
scalar_access tests = tests
scalar_access removes = removes
scalar_access clears = clears
scalar_access walks = walks
scalar_access runs = runs

module _ (permits : Access → Resource → Type 0) where
  abbrev pub LooksAt : ℕ → Type 0
  LooksAt slot = permits looks (variable_slot slot)

  -- an array is touched so; a parameter holds only what is permitted
  abbrev pub TouchesArray : Access → Array → Type 0
  TouchesArray access (array.Global n) = permits access (array_slot n)
  TouchesArray access (array.Local i) = Unit {0}

  abbrev pub TouchesVariable : Access → Variable → Type 0
  TouchesVariable access (variable.Global n) = permits (scalar_access access) (variable_slot n)
  TouchesVariable access (variable.Local i) = Unit {0}

  -- a field or the record is touched so: an assignment looks at FS or at OFS
  abbrev pub TouchesField : Access → Type 0
  TouchesField looks = Unit {0}
  TouchesField reads = Unit {0}
  TouchesField olds = Unit {0}
  TouchesField writes = LooksAt fs_slot × LooksAt ofs_slot
  TouchesField (changes sign) = LooksAt fs_slot × LooksAt ofs_slot
  TouchesField tests = Unit {0}
  TouchesField removes = Unit {0}
  TouchesField clears = Unit {0}
  TouchesField walks = Unit {0}
  TouchesField runs = Unit {0}

  abbrev pub Touches : Access → Place → Type 0
  Touches access (to_global n) = permits (scalar_access access) (variable_slot n)
  Touches access (to_local i) = Unit {0}
  Touches access (to_element a ks) = TouchesArray access a
  Touches access (to_field e) = TouchesField access

  -- an array by reference: everything must be permitted of it
  abbrev pub AllowsWhole : Array → Type 0
  AllowsWhole (array.Global n) = (access : Access) → permits access (array_slot n)
  AllowsWhole (array.Local i) = Unit {0}

  -- two subscripts or more are joined by SUBSEP
  abbrev pub AllowsJoining : Exprs → Type 0
  AllowsJoining none = Unit {0}
  AllowsJoining (more e none) = Unit {0}
  AllowsJoining (more e (more f es)) = LooksAt subsep_slot

  abbrev pub AllowsLeaf : Leaf → Type 0
  AllowsLeaf (number z) = Unit {0}
  AllowsLeaf (text t) = Unit {0}
  AllowsLeaf (global n) = LooksAt n
  AllowsLeaf (local i) = Unit {0}
  AllowsLeaf (special x) = Unit {0}
  AllowsLeaf (field n) = Unit {0}

  abbrev mutual
    -- all that an expression does is permitted; of a call, that it is one of this function
    pub Allows : Expr → Type 0
    Allows (leaf l) = AllowsLeaf l
    Allows (numeric n) = AllowsNumeric n
    Allows (test t) = AllowsTest t
    Allows (textual t) = AllowsTextual t
    Allows (read p) = AllowsPlace p × Touches reads p
    Allows (choice c a b) = Allows c × Allows a × Allows b
    Allows (assign p e) = AllowsPlace p × Allows e × Touches writes p
    Allows (call f as') = permits runs (function_slot f) × AllowsArguments as'

    pub AllowsEach : Exprs → Type 0
    AllowsEach none = Unit {0}
    AllowsEach (more e es) = Allows e × AllowsEach es

    -- the subscripts or the index of a place
    pub AllowsPlace : Place → Type 0
    AllowsPlace (to_global n) = Unit {0}
    AllowsPlace (to_local i) = Unit {0}
    AllowsPlace (to_element a ks) = AllowsEach ks × AllowsJoining ks
    AllowsPlace (to_field e) = Allows e

    pub AllowsNumeric : Numeric → Type 0
    AllowsNumeric (arithmetic op a b) = Allows a × Allows b
    AllowsNumeric (signed s a) = Allows a
    AllowsNumeric (change op p e) = AllowsPlace p × Allows e × Touches olds p × Touches writes p
    AllowsNumeric (step s p) = AllowsPlace p × Touches olds p × Touches writes p
    AllowsNumeric (function f) = AllowsFunction f
    AllowsNumeric (split e a by) = Allows e × AllowsFieldsBy by × TouchesArray clears a × TouchesArray writes a
    AllowsNumeric (replace c p r to) = AllowsPattern p × Allows r × AllowsPlace to × Touches reads to × Touches writes to
    AllowsNumeric (find e p) = Allows e × AllowsPattern p × permits writes last_match

    pub AllowsFunction : NumericFunction → Type 0
    AllowsFunction (length_of e) = Allows e
    AllowsFunction (index_of e f) = Allows e × Allows f
    AllowsFunction (whole e) = Allows e

    pub AllowsTest : Test → Type 0
    AllowsTest (compare r a b) = Allows a × Allows b
    AllowsTest (both a b) = Allows a × Allows b
    AllowsTest (either a b) = Allows a × Allows b
    AllowsTest (negation a) = Allows a
    AllowsTest (matches holds e p) = Allows e × AllowsPattern p
    AllowsTest (member a ks) = AllowsEach ks × AllowsJoining ks × TouchesArray tests a

    pub AllowsTextual : Textual → Type 0
    AllowsTextual (join es) = AllowsEach es
    AllowsTextual (suffix e a) = Allows e × Allows a
    AllowsTextual (substring e a b) = Allows e × Allows a × Allows b
    AllowsTextual (letters c e) = Allows e
    AllowsTextual (formatted f es) = AllowsFormat f × AllowsEach es

    pub AllowsPattern : Pattern → Type 0
    AllowsPattern (fixed_pattern n) = Unit {0}
    AllowsPattern (spelled_by e) = Allows e

    pub AllowsFieldsBy : FieldsBy → Type 0
    AllowsFieldsBy by_fs = LooksAt fs_slot
    AllowsFieldsBy (by_fixed n) = Unit {0}
    AllowsFieldsBy (by_value e) = Allows e

    pub AllowsFormat : Format → Type 0
    AllowsFormat (fixed_format t) = Unit {0}
    AllowsFormat (format_of e) = Allows e

    pub AllowsArgument : Argument → Type 0
    AllowsArgument (pass e) = Allows e
    AllowsArgument (pass_array a) = AllowsWhole a

    pub AllowsArguments : Arguments → Type 0
    AllowsArguments no_arguments = Unit {0}
    AllowsArguments (more_arguments a as') = AllowsArgument a × AllowsArguments as'

  abbrev pub AllowsSimple : Simple → Type 0
  AllowsSimple (drop e) = Allows e
  AllowsSimple (set p e) = AllowsPlace p × Allows e × Touches writes p
  AllowsSimple (add s p e) = AllowsPlace p × Allows e × Touches (changes s) p
  AllowsSimple (count s p) = AllowsPlace p × Touches (changes (sign_of s)) p
  AllowsSimple (print calm es) = AllowsEach es × LooksAt ofs_slot × LooksAt ors_slot
  AllowsSimple (printf f calm es) = AllowsFormat f × AllowsEach es
  AllowsSimple (delete a ks) = AllowsEach ks × AllowsJoining ks × TouchesArray removes a
  AllowsSimple (clear a) = TouchesArray clears a

  abbrev pub AllowsLeave : Leave → Type 0
  AllowsLeave break = Unit {0}
  AllowsLeave continue = Unit {0}
  AllowsLeave next_record = Unit {0}
  AllowsLeave next_file = permits clears rest_of_file
  AllowsLeave (exit None) = Unit {0}
  AllowsLeave (exit (Some e)) = Allows e
  AllowsLeave (return None) = Unit {0}
  AllowsLeave (return (Some e)) = Allows e

  abbrev pub AllowsSimpleIfAny : Option Simple → Type 0
  AllowsSimpleIfAny None = Unit {0}
  AllowsSimpleIfAny (Some s) = AllowsSimple s

  abbrev pub AllowsIfAny : Option Expr → Type 0
  AllowsIfAny None = Unit {0}
  AllowsIfAny (Some e) = Allows e

  abbrev pub AllowsHead : Head → Type 0
  AllowsHead h = AllowsSimpleIfAny h.first × AllowsIfAny h.condition × AllowsSimpleIfAny h.last

  abbrev mutual
    pub AllowsStmt : Stmt → Type 0
    AllowsStmt (simple s) = AllowsSimple s
    AllowsStmt (leave l) = AllowsLeave l
    AllowsStmt (when c a) = Allows c × AllowsStmts a
    AllowsStmt (choose c a b) = Allows c × AllowsStmts a × AllowsStmts b
    AllowsStmt (repeat c a) = Allows c × AllowsStmts a
    AllowsStmt (do_while a c) = AllowsStmts a × Allows c
    AllowsStmt (loop head a) = AllowsHead head × AllowsStmts a
    AllowsStmt (walk k a body) = TouchesVariable writes k × TouchesArray walks a × AllowsStmts body

    pub AllowsStmts : Stmts → Type 0
    AllowsStmts done = Unit {0}
    AllowsStmts (next s rest) = AllowsStmt s × AllowsStmts rest

  abbrev pub AllowsBody : Option Function → Type 0
  AllowsBody None = Unit {0}
  AllowsBody (Some f) = AllowsStmts f.body

  -- the body of each function that may be called; a slot without a function calls nothing
  abbrev pub AllowsFunctions : List Function → Type 0
  AllowsFunctions functions = (f : ℕ) → permits runs (function_slot f) → AllowsBody (slice_get functions f)

  abbrev pub AllowsSelector : Selector → Type 0
  AllowsSelector always = Unit {0}
  AllowsSelector (matching e) = Allows e
  AllowsSelector (between p q) = Allows p × Allows q × permits writes rule_ranges

  abbrev pub AllowsRules : List Rule → Type 0
  AllowsRules [] = Unit {0}
  AllowsRules (r ∷ rs) = AllowsSelector r.selector × AllowsStmts r.body × AllowsRules rs

  -- the main rules and the functions that may be called; a record that is read looks at FS
  abbrev pub AllowsMain : List Function → List Rule → Type 0
  AllowsMain functions rules = LooksAt fs_slot × AllowsFunctions functions × AllowsRules rules

  -- actions of BEGIN or of END
  abbrev pub AllowsActions : List Stmts → Type 0
  AllowsActions [] = Unit {0}
  AllowsActions (a ∷ rest) = AllowsStmts a × AllowsActions rest

  -- the whole text; RS is looked at after BEGIN
  abbrev pub AllowsCode : Code → Type 0
  AllowsCode code =
      AllowsActions code.begins × LooksAt rs_slot × AllowsMain code.functions code.rules × AllowsActions code.ends
