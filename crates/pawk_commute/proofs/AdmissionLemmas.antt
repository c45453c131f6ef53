-- An admissible program does what the roles of its names permit.
use Rattle.std.proofs.Common.{◌≡◌, ℕ, zero, suc, List, [], ◌∷◌, ◌++◌, Option, Some, None, refl, inl, inr, ⊎_elim, arith}
use Rattle.std.specs.Prelude.{slice_get, Contains}
use Rattle.std.proofs.lemmas.List.Elements.{Contains-append_left, Contains-append_right}
use Rattle.pawk_value.specs.declared.arithmetic.Op.{Op}
use Rattle.pawk_value.specs.declared.arithmetic.Op.TheVariants as op
use Rattle.pawk_code.specs.FirstSlots.{fs_slot, ofs_slot, ors_slot, subsep_slot}
use Rattle.pawk_code.specs.declared.word.Sign.{Sign}
use Rattle.pawk_code.specs.declared.name.Array.{Array}
use Rattle.pawk_code.specs.declared.name.Array.TheVariants as array
use Rattle.pawk_code.specs.declared.name.Variable.{Variable}
use Rattle.pawk_code.specs.declared.name.Variable.TheVariants as variable
use Rattle.pawk_code.specs.Expressions.{Leaf, number, text, global, local, special, field, Expr, leaf, numeric, test, textual, read, choice, assign, call, Exprs, none, more, Place, to_global, to_local, to_element, to_field, Numeric, arithmetic, signed, change, step, function, split, replace, find, NumericFunction, length_of, index_of, whole, Test, compare, both, either, negation, matches, member, Textual, join, suffix, substring, letters, formatted, Pattern, fixed_pattern, spelled_by, FieldsBy, by_fs, by_fixed, by_value, Format, fixed_format, format_of, Argument, pass, pass_array, Arguments, no_arguments, more_arguments}
use Rattle.pawk_code.specs.Statements.{Simple, drop, set, add, count, print, printf, delete, clear, Leave, break, continue, next_record, next_file, exit, return, Head, Stmt, simple, leave, when, choose, repeat, do_while, loop, walk, Stmts, done, next}
use Rattle.pawk_code.specs.Programs.{Selector, always, matching, between, Rule, Function}
use Rattle.pawk_admit.specs.declared.occurrence.Touch.{Touch}
use Rattle.pawk_admit.specs.declared.occurrence.Touch.TheVariants as touch
use Rattle.pawk_admit.specs.declared.occurrence.GlobalName.{GlobalName}
use Rattle.pawk_admit.specs.declared.occurrence.GlobalName.TheVariants as name
use Rattle.pawk_admit.specs.declared.occurrence.Occurrence.{Occurrence}
use Rattle.pawk_admit.specs.declared.occurrence.Occurrence.TheVariants as occurrence
use Rattle.pawk_admit.specs.declared.reason.Reason.TheVariants as reason
use Rattle.pawk_admit.specs.declared.role.Role.{Role}
use Rattle.pawk_admit.specs.declared.role.Role.TheVariants.{Fixed, Adder, Setter, Reader}
use Rattle.pawk_admit.specs.Occurrences.{of_array, of_variable, of_leaf, touch_by, of_expression, of_expressions, of_place, of_numeric, of_function_of_number, of_test, of_textual, of_pattern, of_fields_by, of_format, of_argument, of_arguments, of_simple, of_expression_if_any, of_simple_if_any, of_leave, of_head, of_statement, of_body, of_selector, of_rules, of_function_if_any}
use Rattle.pawk_admit.specs.Reaches.{Reached, from_rules, from_function, Occurs}
use Rattle.pawk_admit.specs.Admission.{IsSeparator, IsRole, IsAdmissible, AreRoles}
use Rattle.pawk_admit.specs.Roles.{role_of_scalar, role_of_array}
use Rattle.pawk_store.specs.Builtins.{sign_of}
use Rattle.pawk_store.specs.Lockstep.{Access, reads, olds, writes, changes, tests, removes, clears, walks}
use Rattle.pawk_store.specs.Allows.{LooksAt, TouchesArray, TouchesVariable, Touches, AllowsJoining, AllowsLeaf, Allows, AllowsEach, AllowsPlace, AllowsNumeric, AllowsFunction, AllowsTest, AllowsTextual, AllowsPattern, AllowsFieldsBy, AllowsFormat, AllowsArgument, AllowsArguments, AllowsSimple, AllowsLeave, AllowsSimpleIfAny, AllowsIfAny, AllowsHead, AllowsStmt, AllowsStmts, AllowsBody, AllowsSelector, AllowsRules, AllowsMain}
use Rattle.pawk_commute.specs.Settings.{Setting, MayRead, Permits}

module _ (i : Setting) (no : IsAdmissible i.code) (are : AreRoles (Occurs i.code) i.roles) where
  abbrev Stands : Occurrence → Type 0
  Stands o = Occurs i.code o

  abbrev Touched : Touch → GlobalName → Type 0
  Touched t n = Stands (occurrence.Touch t n)

  abbrev P : Access → Rattle.pawk_store.specs.Lockstep.Resource → Type 0
  P = Permits i

  -- ---- what occurs in the text and the roles

  set_by : (n : GlobalName) (r : Role) → IsRole Stands r n → Touched touch.Set n → r ≡ Setter
  set_by n Fixed k h = absurd (no reason.Assignment (n, inr (inr (h, k.1))))
  set_by n Adder k h = absurd (let e = k.1 touch.Set h in cc)
  set_by n Setter k h = refl
  set_by n Reader k h = absurd (let e = k.1.1 touch.Set h in cc)

  only_adds : (n : GlobalName) → Touched touch.Add n → (other : Touch) → Touched other n → other ≡ touch.Add
  only_adds n h touch.Add k = refl
  only_adds n h touch.AddAndLook k = absurd (no reason.Value (n, k))
  only_adds n h touch.Look k = absurd (no reason.Addition (n, (inl h, inr (touch.Look, k, λ x. x))))
  only_adds n h touch.Set k = absurd (no reason.Addition (n, (inl h, inr (touch.Set, k, λ x. x))))
  only_adds n h touch.Assign k = absurd (no reason.Addition (n, (inl h, inr (touch.Assign, k, λ x. x))))
  only_adds n h touch.Test k = absurd (no reason.Addition (n, (inl h, inr (touch.Test, k, λ x. x))))
  only_adds n h touch.Walk k = absurd (no reason.Addition (n, (inl h, inr (touch.Walk, k, λ x. x))))
  only_adds n h touch.Split k = absurd (no reason.Addition (n, (inl h, inr (touch.Split, k, λ x. x))))
  only_adds n h touch.Pass k = absurd (no reason.Addition (n, (inl h, inr (touch.Pass, k, λ x. x))))
  only_adds n h touch.Delete k = absurd (no reason.Addition (n, (inl h, inr (touch.Delete, k, λ x. x))))

  added_by : (n : GlobalName) (r : Role) → IsRole Stands r n → Touched touch.Add n → r ≡ Adder
  added_by n Fixed k h = absurd (k.0 (h, only_adds n h))
  added_by n Adder k h = refl
  added_by n Setter k h = absurd (let e = k.0.1 touch.Add h in cc)
  added_by n Reader k h = absurd (let e = k.1.1 touch.Add h in cc)

  looked_by : (n : ℕ) (r : Role) → IsRole Stands r (name.Scalar n) → Touched touch.Look (name.Scalar n) → r ≡ Fixed
  looked_by n Fixed k h = refl
  looked_by n Adder k h = absurd (let e = k.1 touch.Look h in cc)
  looked_by n Setter k h = absurd (let e = k.0.1 touch.Look h in cc)
  looked_by n Reader k h = absurd k.0

  read_by : (n : ℕ) (r : Role) → IsRole Stands r (name.Array n) → Touched touch.Look (name.Array n) → MayRead r
  read_by n Fixed k h = tt
  read_by n Adder k h = absurd (let e = k.1 touch.Look h in cc)
  read_by n Setter k h = absurd (let e = k.0.1 touch.Look h in cc)
  read_by n Reader k h = tt

  tested_by : (n : GlobalName) (r : Role) → IsRole Stands r n → Touched touch.Test n → r ≡ Fixed
  tested_by n Fixed k h = refl
  tested_by n Adder k h = absurd (let e = k.1 touch.Test h in cc)
  tested_by n Setter k h = absurd (let e = k.0.1 touch.Test h in cc)
  tested_by n Reader k h = absurd (let e = k.1.1 touch.Test h in cc)

  walked_by : (n : GlobalName) (r : Role) → IsRole Stands r n → Touched touch.Walk n → r ≡ Fixed
  walked_by n Fixed k h = refl
  walked_by n Adder k h = absurd (let e = k.1 touch.Walk h in cc)
  walked_by n Setter k h = absurd (let e = k.0.1 touch.Walk h in cc)
  walked_by n Reader k h = absurd (let e = k.1.1 touch.Walk h in cc)

  separator_by : (n : ℕ) (r : Role) → IsRole Stands r (name.Scalar n) → IsSeparator (name.Scalar n) → r ≡ Fixed
  separator_by n Fixed k s = refl
  separator_by n Adder k s = absurd (no reason.Addition (name.Scalar n, (inl k.0, inl s)))
  separator_by n Setter k s = absurd (k.1 s)
  separator_by n Reader k s = absurd k.0

  looks_at : (n : ℕ) → IsSeparator (name.Scalar n) → LooksAt P n
  looks_at n s = separator_by n (role_of_scalar i.roles n) (are (name.Scalar n)) s

  fs : LooksAt P fs_slot
  fs = looks_at fs_slot (inl refl)

  ofs : LooksAt P ofs_slot
  ofs = looks_at ofs_slot (inr (inl refl))

  ors : LooksAt P ors_slot
  ors = looks_at ors_slot (inr (inr (inl refl)))

  subsep : LooksAt P subsep_slot
  subsep = looks_at subsep_slot (inr (inr (inr refl)))

  not_assigned : (n : GlobalName) → Touched touch.Assign n → ⊥
  not_assigned n h = no reason.Assignment (n, inl h)

  not_deleted : (n : GlobalName) → Touched touch.Delete n → ⊥
  not_deleted n h = no reason.Assignment (n, inr (inl h))

  not_split : (n : GlobalName) → Touched touch.Split n → ⊥
  not_split n h = no reason.Split (n, h)

  not_passed : (n : GlobalName) → Touched touch.Pass n → ⊥
  not_passed n h = no reason.Passing (n, h)

  not_used : (n : GlobalName) → Touched touch.AddAndLook n → ⊥
  not_used n h = no reason.Value (n, h)

  reached : (f : ℕ) → Stands (occurrence.Call f) → Reached i.code f
  reached f = ⊎_elim (λ c. from_rules f c) (λ p. from_function p.0 f p.1 p.2)

  -- ---- lists of what occurs in the text

  abbrev Among : List Occurrence → Type 0
  Among os = (o : Occurrence) → Contains os o → Stands o

  first : (os qs : List Occurrence) → Among (os ++ qs) → Among os
  first os qs h o c = h o (Contains-append_left os qs o c)

  second : (os qs : List Occurrence) → Among (os ++ qs) → Among qs
  second os qs h o c = h o (Contains-append_right os qs o c)

  -- of three lists
  first_of : (os qs rs : List Occurrence) → Among (os ++ qs ++ rs) → Among os
  first_of os qs rs h = first os qs (first (os ++ qs) rs h)

  second_of : (os qs rs : List Occurrence) → Among (os ++ qs ++ rs) → Among qs
  second_of os qs rs h = second os qs (first (os ++ qs) rs h)

  third_of : (os qs rs : List Occurrence) → Among (os ++ qs ++ rs) → Among rs
  third_of os qs rs h = second (os ++ qs) rs h

  head : (o : Occurrence) (os : List Occurrence) → Among (o ∷ os) → Stands o
  head o os h = h o (zero, omega arith, refl)

  tail : (o : Occurrence) (os : List Occurrence) → Among (o ∷ os) → Among os
  tail o os h q c = h q (suc c.0, omega (arith, c.1), c.2)

  -- ---- places

  reads_place : (p : Place) → Among (of_place touch.Look p) → Touches P reads p
  reads_place (to_global n) h = looked_by n (role_of_scalar i.roles n) (are (name.Scalar n)) (head _ [] h)
  reads_place (to_local k) h = tt
  reads_place (to_element (array.Global n) ks) h = read_by n (role_of_array i.roles n) (are (name.Array n)) (head _ _ h)
  reads_place (to_element (array.Local k) ks) h = tt
  reads_place (to_field e) h = tt

  sets_place : (p : Place) → Among (of_place touch.Set p) → Touches P writes p
  sets_place (to_global n) h = set_by (name.Scalar n) (role_of_scalar i.roles n) (are (name.Scalar n)) (head _ [] h)
  sets_place (to_local k) h = tt
  sets_place (to_element (array.Global n) ks) h = set_by (name.Array n) (role_of_array i.roles n) (are (name.Array n)) (head _ _ h)
  sets_place (to_element (array.Local k) ks) h = tt
  sets_place (to_field e) h = (fs, ofs)

  adds_to_place : (s : Sign) (p : Place) → Among (of_place touch.Add p) → Touches P (changes s) p
  adds_to_place s (to_global n) h = added_by (name.Scalar n) (role_of_scalar i.roles n) (are (name.Scalar n)) (head _ [] h)
  adds_to_place s (to_local k) h = tt
  adds_to_place s (to_element (array.Global n) ks) h = added_by (name.Array n) (role_of_array i.roles n) (are (name.Array n)) (head _ _ h)
  adds_to_place s (to_element (array.Local k) ks) h = tt
  adds_to_place s (to_field e) h = (fs, ofs)

  -- a place that is assigned otherwise, or of which a sum is used, is a field or a parameter
  assigns_place : (t : Touch) (p : Place) → ((n : GlobalName) → Touched t n → ⊥) → Among (of_place t p) → Touches P reads p × Touches P olds p × Touches P writes p
  assigns_place t (to_global n) never h = absurd (never (name.Scalar n) (head _ [] h))
  assigns_place t (to_local k) never h = (tt, tt, tt)
  assigns_place t (to_element (array.Global n) ks) never h = absurd (never (name.Array n) (head _ _ h))
  assigns_place t (to_element (array.Local k) ks) never h = (tt, tt, tt)
  assigns_place t (to_field e) never h = (tt, tt, (fs, ofs))

  never_by : (o : Op) (n : GlobalName) → Touched (touch_by o) n → ⊥
  never_by op.Add n h = not_used n h
  never_by op.Subtract n h = not_used n h
  never_by op.Multiply n h = not_assigned n h
  never_by op.Divide n h = not_assigned n h
  never_by op.Remainder n h = not_assigned n h
  never_by op.Power n h = not_assigned n h

  -- an array with which nothing global may be done
  never_array : (t : Touch) (access : Access) (a : Array) → ((n : GlobalName) → Touched t n → ⊥) → Among (of_array t a) → TouchesArray P access a
  never_array t access (array.Global n) never h = absurd (never (name.Array n) (head _ [] h))
  never_array t access (array.Local k) never h = tt

  tests_array : (a : Array) → Among (of_array touch.Test a) → TouchesArray P tests a
  tests_array (array.Global n) h = tested_by (name.Array n) (role_of_array i.roles n) (are (name.Array n)) (head _ [] h)
  tests_array (array.Local k) h = tt

  walks_array : (a : Array) → Among (of_array touch.Walk a) → TouchesArray P walks a
  walks_array (array.Global n) h = walked_by (name.Array n) (role_of_array i.roles n) (are (name.Array n)) (head _ [] h)
  walks_array (array.Local k) h = tt

  joins : (ks : Exprs) → AllowsJoining P ks
  joins none = tt
  joins (more e none) = tt
  joins (more e (more f es)) = subsep

  -- ---- expressions

  leaf_in : (l : Leaf) → Among (of_leaf l) → AllowsLeaf P l
  leaf_in (number z) h = tt
  leaf_in (text t) h = tt
  leaf_in (global n) h = looked_by n (role_of_scalar i.roles n) (are (name.Scalar n)) (head _ [] h)
  leaf_in (local k) h = tt
  leaf_in (special x) h = tt
  leaf_in (field n) h = tt

  mutual
    expression_in : (e : Expr) → Among (of_expression e) → Allows P e
    expression_in (leaf l) h = leaf_in l h
    expression_in (numeric n) h = numeric_in n h
    expression_in (test t) h = test_in t h
    expression_in (textual t) h = textual_in t h
    expression_in (read p) h = (place_in touch.Look p h, reads_place p h)
    expression_in (choice c a b) h = (
      expression_in c (first_of (of_expression c) (of_expression a) (of_expression b) h),
      expression_in a (second_of (of_expression c) (of_expression a) (of_expression b) h),
      expression_in b (third_of (of_expression c) (of_expression a) (of_expression b) h),
    )
    expression_in (assign p e) h =
        let at = first (of_place touch.Assign p) (of_expression e) h in
        (place_in touch.Assign p at, expression_in e (second (of_place touch.Assign p) (of_expression e) h), (assigns_place touch.Assign p not_assigned at).2)
    expression_in (call f as') h = (reached f (head _ (of_arguments as') h), arguments_in as' (tail (occurrence.Call f) (of_arguments as') h))

    expressions_in : (es : Exprs) → Among (of_expressions es) → AllowsEach P es
    expressions_in none h = tt
    expressions_in (more e es) h = (expression_in e (first (of_expression e) (of_expressions es) h), expressions_in es (second (of_expression e) (of_expressions es) h))

    place_in : (t : Touch) (p : Place) → Among (of_place t p) → AllowsPlace P p
    place_in t (to_global n) h = tt
    place_in t (to_local k) h = tt
    place_in t (to_element a ks) h = (expressions_in ks (second (of_array t a) (of_expressions ks) h), joins ks)
    place_in t (to_field e) h = expression_in e h

    numeric_in : (n : Numeric) → Among (of_numeric n) → AllowsNumeric P n
    numeric_in (arithmetic o a b) h = (expression_in a (first (of_expression a) (of_expression b) h), expression_in b (second (of_expression a) (of_expression b) h))
    numeric_in (signed s a) h = expression_in a h
    numeric_in (change o p e) h =
        let at = first (of_place (touch_by o) p) (of_expression e) h in
        let touches = assigns_place (touch_by o) p (never_by o) at in
        (place_in (touch_by o) p at, expression_in e (second (of_place (touch_by o) p) (of_expression e) h), touches.1, touches.2)
    numeric_in (step s p) h =
        let touches = assigns_place touch.AddAndLook p not_used h in
        (place_in touch.AddAndLook p h, touches.1, touches.2)
    numeric_in (function f) h = function_in f h
    numeric_in (split e a by) h =
        let of_a = second_of (of_expression e) (of_array touch.Split a) (of_fields_by by) h in (
          expression_in e (first_of (of_expression e) (of_array touch.Split a) (of_fields_by by) h),
          fields_by_in by (third_of (of_expression e) (of_array touch.Split a) (of_fields_by by) h),
          never_array touch.Split clears a not_split of_a,
          never_array touch.Split writes a not_split of_a,
        )
    numeric_in (replace c p r to) h =
        let at = third_of (of_pattern p) (of_expression r) (of_place touch.Assign to) h in
        let touches = assigns_place touch.Assign to not_assigned at in (
          pattern_in p (first_of (of_pattern p) (of_expression r) (of_place touch.Assign to) h),
          expression_in r (second_of (of_pattern p) (of_expression r) (of_place touch.Assign to) h),
          place_in touch.Assign to at,
          touches.0,
          touches.2,
        )
    numeric_in (find e p) h = absurd (no reason.Match (head _ (of_expression e ++ of_pattern p) h))

    function_in : (f : NumericFunction) → Among (of_function_of_number f) → AllowsFunction P f
    function_in (length_of e) h = expression_in e h
    function_in (index_of e f) h = (expression_in e (first (of_expression e) (of_expression f) h), expression_in f (second (of_expression e) (of_expression f) h))
    function_in (whole e) h = expression_in e h

    test_in : (t : Test) → Among (of_test t) → AllowsTest P t
    test_in (compare r a b) h = (expression_in a (first (of_expression a) (of_expression b) h), expression_in b (second (of_expression a) (of_expression b) h))
    test_in (both a b) h = (expression_in a (first (of_expression a) (of_expression b) h), expression_in b (second (of_expression a) (of_expression b) h))
    test_in (either a b) h = (expression_in a (first (of_expression a) (of_expression b) h), expression_in b (second (of_expression a) (of_expression b) h))
    test_in (negation a) h = expression_in a h
    test_in (matches holds e p) h = (expression_in e (first (of_expression e) (of_pattern p) h), pattern_in p (second (of_expression e) (of_pattern p) h))
    test_in (member a ks) h = (
      expressions_in ks (second (of_array touch.Test a) (of_expressions ks) h),
      joins ks,
      tests_array a (first (of_array touch.Test a) (of_expressions ks) h),
    )

    textual_in : (t : Textual) → Among (of_textual t) → AllowsTextual P t
    textual_in (join es) h = expressions_in es h
    textual_in (suffix e a) h = (expression_in e (first (of_expression e) (of_expression a) h), expression_in a (second (of_expression e) (of_expression a) h))
    textual_in (substring e a b) h = (
      expression_in e (first_of (of_expression e) (of_expression a) (of_expression b) h),
      expression_in a (second_of (of_expression e) (of_expression a) (of_expression b) h),
      expression_in b (third_of (of_expression e) (of_expression a) (of_expression b) h),
    )
    textual_in (letters c e) h = expression_in e h
    textual_in (formatted f es) h = (format_in f (first (of_format f) (of_expressions es) h), expressions_in es (second (of_format f) (of_expressions es) h))

    pattern_in : (p : Pattern) → Among (of_pattern p) → AllowsPattern P p
    pattern_in (fixed_pattern n) h = tt
    pattern_in (spelled_by e) h = expression_in e h

    fields_by_in : (by : FieldsBy) → Among (of_fields_by by) → AllowsFieldsBy P by
    fields_by_in by_fs h = fs
    fields_by_in (by_fixed n) h = tt
    fields_by_in (by_value e) h = expression_in e h

    format_in : (f : Format) → Among (of_format f) → AllowsFormat P f
    format_in (fixed_format t) h = tt
    format_in (format_of e) h = expression_in e h

    argument_in : (a : Argument) → Among (of_argument a) → AllowsArgument P a
    argument_in (pass e) h = expression_in e h
    argument_in (pass_array (array.Global n)) h = absurd (not_passed (name.Array n) (head _ [] h))
    argument_in (pass_array (array.Local k)) h = tt

    arguments_in : (as' : Arguments) → Among (of_arguments as') → AllowsArguments P as'
    arguments_in no_arguments h = tt
    arguments_in (more_arguments a as') h = (argument_in a (first (of_argument a) (of_arguments as') h), arguments_in as' (second (of_argument a) (of_arguments as') h))

  -- ---- statements

  simple_in : (s : Simple) → Among (of_simple s) → AllowsSimple P s
  simple_in (drop e) h = expression_in e h
  simple_in (set p e) h =
      let at = first (of_place touch.Set p) (of_expression e) h in
      (place_in touch.Set p at, expression_in e (second (of_place touch.Set p) (of_expression e) h), sets_place p at)
  simple_in (add s p e) h =
      let at = first (of_place touch.Add p) (of_expression e) h in
      (place_in touch.Add p at, expression_in e (second (of_place touch.Add p) (of_expression e) h), adds_to_place s p at)
  simple_in (count s p) h = (place_in touch.Add p h, adds_to_place (sign_of s) p h)
  simple_in (print calm es) h = (expressions_in es h, ofs, ors)
  simple_in (printf f calm es) h = (format_in f (first (of_format f) (of_expressions es) h), expressions_in es (second (of_format f) (of_expressions es) h))
  simple_in (delete a ks) h = (
    expressions_in ks (second (of_array touch.Delete a) (of_expressions ks) h),
    joins ks,
    never_array touch.Delete removes a not_deleted (first (of_array touch.Delete a) (of_expressions ks) h),
  )
  simple_in (clear a) h = never_array touch.Delete clears a not_deleted h

  leave_in : (l : Leave) → Among (of_leave l) → AllowsLeave P l
  leave_in break h = tt
  leave_in continue h = tt
  leave_in next_record h = tt
  leave_in next_file h = absurd (no reason.NextFile (head _ [] h))
  leave_in (exit None) h = tt
  leave_in (exit (Some e)) h = expression_in e h
  leave_in (return None) h = tt
  leave_in (return (Some e)) h = expression_in e h

  simple_if_any_in : (s : Option Simple) → Among (of_simple_if_any s) → AllowsSimpleIfAny P s
  simple_if_any_in None h = tt
  simple_if_any_in (Some s) h = simple_in s h

  if_any_in : (e : Option Expr) → Among (of_expression_if_any e) → AllowsIfAny P e
  if_any_in None h = tt
  if_any_in (Some e) h = expression_in e h

  head_in : (k : Head) → Among (of_head k) → AllowsHead P k
  head_in k h = (
    simple_if_any_in k.first (first_of (of_simple_if_any k.first) (of_expression_if_any k.condition) (of_simple_if_any k.last) h),
    if_any_in k.condition (second_of (of_simple_if_any k.first) (of_expression_if_any k.condition) (of_simple_if_any k.last) h),
    simple_if_any_in k.last (third_of (of_simple_if_any k.first) (of_expression_if_any k.condition) (of_simple_if_any k.last) h),
  )

  assigns_variable : (k : Variable) → Among (of_variable touch.Assign k) → TouchesVariable P writes k
  assigns_variable (variable.Global n) h = absurd (not_assigned (name.Scalar n) (head _ [] h))
  assigns_variable (variable.Local n) h = tt

  mutual
    statement_in : (s : Stmt) → Among (of_statement s) → AllowsStmt P s
    statement_in (simple s) h = simple_in s h
    statement_in (leave l) h = leave_in l h
    statement_in (when c a) h = (expression_in c (first (of_expression c) (of_body a) h), body_in a (second (of_expression c) (of_body a) h))
    statement_in (choose c a b) h = (
      expression_in c (first_of (of_expression c) (of_body a) (of_body b) h),
      body_in a (second_of (of_expression c) (of_body a) (of_body b) h),
      body_in b (third_of (of_expression c) (of_body a) (of_body b) h),
    )
    statement_in (repeat c a) h = (expression_in c (first (of_expression c) (of_body a) h), body_in a (second (of_expression c) (of_body a) h))
    statement_in (do_while a c) h = (body_in a (second (of_expression c) (of_body a) h), expression_in c (first (of_expression c) (of_body a) h))
    statement_in (loop k a) h = (head_in k (first (of_head k) (of_body a) h), body_in a (second (of_head k) (of_body a) h))
    statement_in (walk k a body) h = (
      assigns_variable k (first_of (of_variable touch.Assign k) (of_array touch.Walk a) (of_body body) h),
      walks_array a (second_of (of_variable touch.Assign k) (of_array touch.Walk a) (of_body body) h),
      body_in body (third_of (of_variable touch.Assign k) (of_array touch.Walk a) (of_body body) h),
    )

    body_in : (body : Stmts) → Among (of_body body) → AllowsStmts P body
    body_in done h = tt
    body_in (next s rest) h = (statement_in s (first (of_statement s) (of_body rest) h), body_in rest (second (of_statement s) (of_body rest) h))

  -- ---- the text

  selector_in : (s : Selector) → Among (of_selector s) → AllowsSelector P s
  selector_in always h = tt
  selector_in (matching e) h = expression_in e h
  selector_in (between p q) h = absurd (no reason.Range (head _ (of_expression p ++ of_expression q) h))

  rules_in : (rs : List Rule) → Among (of_rules rs) → AllowsRules P rs
  rules_in [] h = tt
  rules_in (r ∷ rs) h = (
    selector_in r.selector (first_of (of_selector r.selector) (of_body r.body) (of_rules rs) h),
    body_in r.body (second_of (of_selector r.selector) (of_body r.body) (of_rules rs) h),
    rules_in rs (third_of (of_selector r.selector) (of_body r.body) (of_rules rs) h),
  )

  body_of : (f : Option Function) → Among (of_function_if_any f) → AllowsBody P f
  body_of None h = tt
  body_of (Some f) h = body_in f.body h

  pub allows_main : AllowsMain P i.code.functions i.code.rules
  allows_main = (
    fs,
    λ f k. body_of (slice_get i.code.functions f) (λ o c. inr (f, k, c)),
    rules_in i.code.rules (λ o c. inl c),
  )
