-- Expressions that are sound, and whose names are known, are proper.
use Rattle.std.proofs.Common.{◌≡◌, ℕ, suc, Bool, true, false, ◌&&◌, ◌||◌, ◌==◌, List, [], ◌∷◌, ◌++◌, Option, Some, None, refl, arith, rules, ◌⊎◌, inl, inr}
use Rattle.std.specs.Prelude.{nat_le}
use Rattle.pawk_lex.specs.Bytes.{Text}
use Rattle.pawk_lex.specs.declared.token.Builtin.{Builtin}
use Rattle.pawk_lex.specs.declared.token.Builtin.TheVariants as b
use Rattle.pawk_syntax_tree.specs.declared.tree.Single.{Single}
use Rattle.pawk_syntax_tree.specs.declared.tree.Single.TheVariants as single
use Rattle.pawk_syntax_tree.specs.declared.tree.Double.{Double}
use Rattle.pawk_syntax_tree.specs.declared.tree.Double.TheVariants as double
use Rattle.pawk_syntax_tree.specs.Tree.{Tree, number, string, ere, variable, element, unary, binary, choice, member, Trees, none, more, value, value_unless, takes_ere, takes_ere_at}
use Rattle.pawk_syntax_tree.specs.Tree as tree
use Rattle.pawk_syntax_tree.specs.Canonical.{IsLvalue, FitsSingle, FitsDouble, IsSound, AreSound}
use Rattle.pawk_syntax_show.proofs.WritableTree.{IsWritableTree, AreWritableTrees}
use Rattle.pawk_syntax_check.specs.Mentions.{Mention, array, scalar, target, argument, call, builtin, Role, as_value, as_target, as_array, as_argument, role_under, role_left, Setting, plain, of_call, of_builtin, role_at, count, inside_all, mentions}
use Rattle.pawk_syntax_check.specs.Calls.{is_lvalue, is_name, fits_builtin, has_targets, takes}
use Rattle.pawk_resolve.specs.Slots.{place}
use Rattle.pawk_resolve.specs.Scopes.{Scope, is_array, special_of}
use Rattle.pawk_resolve_law.proofs.Slashed.{of_tree, of_trees}
use Rattle.pawk_resolve_law.specs.Proper.{IsExpression, IsFunction, IsScalar, IsArray, IsNamed, IsTarget, IsArrayName, Meets, IsPassed, IsPattern, IsRight, IsProper, AreProper, ArePassed, AreTaken}

both_of : (a d : Bool) → (a && d) ≡ true → (a ≡ true) × (d ≡ true)
both_of true true h = (refl, refl)
both_of true false h = let no : false ≡ true = h in cc
both_of false d h = let no : false ≡ true = h in cc

module _ (s : Scope) where
  -- what is mentioned is in the scope, as it is mentioned
  abbrev pub IsKnown : Mention → Type 0
  IsKnown (array x) = IsArray s x
  IsKnown (scalar x) = IsScalar s x
  IsKnown (target x) = IsScalar s x × (special_of x ≡ None)
  IsKnown (argument x f place) = IsNamed s (is_array s x) x
  IsKnown (call f n) = IsFunction s f
  IsKnown (builtin f ts) = fits_builtin f ts ≡ true
  IsKnown _ = Unit {0}

  abbrev pub AreKnown : List Mention → Type 0
  AreKnown [] = Unit {0}
  AreKnown (m ∷ ms) = IsKnown m × AreKnown ms

  abbrev pub AreExpressions : List Text → Type 0
  AreExpressions [] = Unit {0}
  AreExpressions (x ∷ xs) = IsExpression s x × AreExpressions xs

  pub known_parts : (xs ys : List Mention) → AreKnown (xs ++ ys) → AreKnown xs × AreKnown ys
  known_parts [] ys h = (tt, h)
  known_parts (m ∷ ms) ys h = let rest = known_parts ms ys h.1 in ((h.0, rest.0), rest.1)

  pub expression_parts : (xs ys : List Text) → AreExpressions (xs ++ ys) → AreExpressions xs × AreExpressions ys
  expression_parts [] ys h = (tt, h)
  expression_parts (x ∷ xs) ys h = let rest = expression_parts xs ys h.1 in ((h.0, rest.0), rest.1)

  -- a tree in a role, which may be an expression between slashes or not
  abbrev pub FitsRole : Role → Bool → Tree → Type 0
  FitsRole role may a = (value_unless may a ≡ a) × IsSound a × IsWritableTree a × AreKnown (mentions role a) × AreExpressions (of_tree a)

  -- trees in a list, of which the first has this place
  abbrev pub FitRoles : Setting → Option Builtin → ℕ → Trees → Type 0
  FitRoles setting f place ts = AreSound f place ts × AreWritableTrees ts × AreKnown (inside_all setting place ts) × AreExpressions (of_trees ts)

  first : (setting : Setting) (f : Option Builtin) (place : ℕ) (a : Tree) (ts : Trees) → FitRoles setting f place (more a ts) →
      FitsRole (role_at setting place) (takes_ere_at f place) a
  first setting f place a ts h =
      (h.0.0, h.0.1, h.1.0, (known_parts (mentions (role_at setting place) a) (inside_all setting (suc place) ts) h.2).0, (expression_parts (of_tree a) (of_trees ts) h.3).0)

  rest : (setting : Setting) (f : Option Builtin) (place : ℕ) (a : Tree) (ts : Trees) → FitRoles setting f place (more a ts) →
      FitRoles setting f (suc place) ts
  rest setting f place a ts h =
      (h.0.2, h.1.1, (known_parts (mentions (role_at setting place) a) (inside_all setting (suc place) ts) h.2).1, (expression_parts (of_tree a) (of_trees ts) h.3).1)

  -- what is to be shown of each tree
  abbrev Holds : Tree → Type 0
  Holds a = FitsRole as_value false a → IsProper s a

  abbrev HoldAll : Trees → Type 0
  HoldAll none = Unit {0}
  HoldAll (more a ts) = Holds a × HoldAll ts

  -- ---- a tree in a role

  pattern_at : (a : Tree) → FitsRole as_value true a → Holds a → IsPattern s a (IsProper s a)
  pattern_at (ere x) h k = h.4.0
  pattern_at _ h k = k (refl, h.1, h.2, h.3, h.4)

  right_at : (may : Bool) (a : Tree) → FitsRole as_value may a → Holds a → IsRight s may a (IsProper s a)
  right_at true a h k = pattern_at a h k
  right_at false a h k = k h

  target_at : (a : Tree) → IsLvalue a → FitsRole as_target false a → Holds a → IsTarget s a × IsProper s a
  target_at (variable x) i h k = (h.3.0.1, k (h.0, h.1, h.2, (h.3.0.0, tt), h.4))
  target_at (element x ts) i h k = (tt, k h)
  target_at (unary single.Field a) i h k = (tt, k h)
  target_at _ i h k = absurd i

  array_at : (a : Tree) → is_name a ≡ true → FitsRole as_array false a → IsArrayName s a
  array_at (variable x) i h = h.3.0
  array_at _ i h = let no : false ≡ true = i in cc

  passed_at : (f : Text) (place : ℕ) (a : Tree) → FitsRole (as_argument f place) false a → Holds a → IsPassed s a (IsProper s a)
  passed_at f place (variable x) h k = h.3.0
  passed_at f place _ h k = k (h.0, h.1, h.2, h.3.1, h.4)

  under_at : (op : Single) (a : Tree) → FitsSingle op a → FitsRole (role_under op) false a → Holds a → Meets s (role_under op) a × IsProper s a
  under_at single.IncrementBefore a i h k = target_at a i h k
  under_at single.DecrementBefore a i h k = target_at a i h k
  under_at single.IncrementAfter a i h k = target_at a i h k
  under_at single.DecrementAfter a i h k = target_at a i h k
  under_at _ a i h k = (tt, k h)

  left_at : (op : Double) (a : Tree) → FitsDouble op a → FitsRole (role_left op) false a → Holds a → Meets s (role_left op) a × IsProper s a
  left_at double.Assign a i h k = target_at a i h k
  left_at double.AddAssign a i h k = target_at a i h k
  left_at double.SubtractAssign a i h k = target_at a i h k
  left_at double.MultiplyAssign a i h k = target_at a i h k
  left_at double.DivideAssign a i h k = target_at a i h k
  left_at double.RemainderAssign a i h k = target_at a i h k
  left_at double.PowerAssign a i h k = target_at a i h k
  left_at _ a i h k = (tt, k h)

  -- ---- lists

  listed : (place : ℕ) (ts : Trees) → HoldAll ts → FitRoles plain None place ts → AreProper s ts
  listed place none k h = tt
  listed place (more a ts) k h = (k.0 (first plain None place a ts h), listed (suc place) ts k.1 (rest plain None place a ts h))

  passed : (f : Text) (place : ℕ) (ts : Trees) → HoldAll ts → FitRoles (of_call f) None place ts → ArePassed s ts
  passed f place none k h = tt
  passed f place (more a ts) k h =
      (passed_at f place a (first (of_call f) None place a ts h) k.0, passed f (suc place) ts k.1 (rest (of_call f) None place a ts h))

  shown : (place : ℕ) (ts : Trees) → HoldAll ts → FitRoles (of_builtin b.Sprintf) (Some b.Sprintf) place ts → AreProper s ts
  shown place none k h = tt
  shown place (more a ts) k h =
      let set = of_builtin b.Sprintf in
      (k.0 (first set (Some b.Sprintf) place a ts h), shown (suc place) ts k.1 (rest set (Some b.Sprintf) place a ts h))

-- ---- how many there are

lvalue_is : (a : Tree) → is_lvalue a ≡ true → IsLvalue a
lvalue_is (variable x) h = tt
lvalue_is (element x ts) h = tt
lvalue_is (unary single.Field a) h = tt
lvalue_is _ h = let no : false ≡ true = h in cc

number_is : (n m : ℕ) → (n == m) ≡ true → n ≡ m
number_is n m h = search rules

one_of : (ts : Trees) → count ts ≡ 1 → (P : Trees → Type 0) → ((a : Tree) → P (more a none)) → P ts
one_of none h P k = absurd (omega (arith, h))
one_of (more a none) h P k = k a
one_of (more a (more d ts)) h P k = absurd (omega (arith, h))

two_of : (ts : Trees) → count ts ≡ 2 → (P : Trees → Type 0) → ((a d : Tree) → P (more a (more d none))) → P ts
two_of none h P k = absurd (omega (arith, h))
two_of (more a none) h P k = absurd (omega (arith, h))
two_of (more a (more d none)) h P k = k a d
two_of (more a (more d (more e ts))) h P k = absurd (omega (arith, h))

three_of : (ts : Trees) → count ts ≡ 3 → (P : Trees → Type 0) → ((a d e : Tree) → P (more a (more d (more e none)))) → P ts
three_of none h P k = absurd (omega (arith, h))
three_of (more a none) h P k = absurd (omega (arith, h))
three_of (more a (more d none)) h P k = absurd (omega (arith, h))
three_of (more a (more d (more e none))) h P k = k a d e
three_of (more a (more d (more e (more f ts)))) h P k = absurd (omega (arith, h))

either_of : (a d : Bool) → (a || d) ≡ true → (a ≡ true) ⊎ (d ≡ true)
either_of true d h = inl refl
either_of false d h = inr h

some_of : (ts : Trees) → nat_le 1 (count ts) ≡ true → (P : Trees → Type 0) → ((a : Tree) (rest' : Trees) → P (more a rest')) → P ts
some_of none h P k = let no : false ≡ true = h in cc
some_of (more a ts) h P k = k a ts

module _ (s : Scope) where
  -- the arguments of a built-in function
  abbrev Given : Builtin → Trees → Type 0
  Given f ts = HoldAll s ts × FitRoles s (of_builtin f) (Some f) 0 ts × (has_targets f ts ≡ true)

  abbrev Taken : Builtin → Trees → Type 0
  Taken f ts = Given f ts → AreTaken s f ts

  at0 : (f : Builtin) (a : Tree) (ts : Trees) → Given f (more a ts) → FitsRole s (role_at (of_builtin f) 0) (takes_ere_at (Some f) 0) a
  at0 f a ts h = first s (of_builtin f) (Some f) 0 a ts h.1

  at1 : (f : Builtin) (a d : Tree) (ts : Trees) → Given f (more a (more d ts)) → FitsRole s (role_at (of_builtin f) 1) (takes_ere_at (Some f) 1) d
  at1 f a d ts h = first s (of_builtin f) (Some f) 1 d ts (rest s (of_builtin f) (Some f) 0 a (more d ts) h.1)

  at2 : (f : Builtin) (a d e : Tree) (ts : Trees) → Given f (more a (more d (more e ts))) → FitsRole s (role_at (of_builtin f) 2) (takes_ere_at (Some f) 2) e
  at2 f a d e ts h =
      first s (of_builtin f) (Some f) 2 e ts
      (rest s (of_builtin f) (Some f) 1 d (more e ts) (rest s (of_builtin f) (Some f) 0 a (more d (more e ts)) h.1))

  substr_two : (a d : Tree) → Taken b.Substr (more a (more d none))
  substr_two a d h = (h.0.0 (at0 b.Substr a (more d none) h), h.0.1.0 (at1 b.Substr a d none h))

  substr_three : (a d e : Tree) → Taken b.Substr (more a (more d (more e none)))
  substr_three a d e h =
      (h.0.0 (at0 b.Substr a (more d (more e none)) h), h.0.1.0 (at1 b.Substr a d (more e none) h), h.0.1.1.0 (at2 b.Substr a d e none h))

  split_two : (a d : Tree) → Taken b.Split (more a (more d none))
  split_two a d h = (h.0.0 (at0 b.Split a (more d none) h), array_at s d h.2 (at1 b.Split a d none h))

  split_three : (a d e : Tree) → Taken b.Split (more a (more d (more e none)))
  split_three a d e h = (
    h.0.0 (at0 b.Split a (more d (more e none)) h),
    array_at s d h.2 (at1 b.Split a d (more e none) h),
    pattern_at s e (at2 b.Split a d e none h) h.0.1.1.0,
  )

  taken : (f : Builtin) (ts : Trees) → takes f (count ts) ≡ true → Taken f ts
  taken b.Length ts n = one_of ts (number_is (count ts) 1 n) (Taken b.Length) (λ a h. h.0.0 (at0 b.Length a none h))
  taken b.Int ts n = one_of ts (number_is (count ts) 1 n) (Taken b.Int) (λ a h. h.0.0 (at0 b.Int a none h))
  taken b.Tolower ts n = one_of ts (number_is (count ts) 1 n) (Taken b.Tolower) (λ a h. h.0.0 (at0 b.Tolower a none h))
  taken b.Toupper ts n = one_of ts (number_is (count ts) 1 n) (Taken b.Toupper) (λ a h. h.0.0 (at0 b.Toupper a none h))
  taken b.Index ts n = two_of ts (number_is (count ts) 2 n) (Taken b.Index)
      (λ a d h. (h.0.0 (at0 b.Index a (more d none) h), h.0.1.0 (at1 b.Index a d none h)))
  taken b.Substr ts n = elim (either_of (count ts == 2) (count ts == 3) n) [
    | inl e ↦ two_of ts (number_is (count ts) 2 e) (Taken b.Substr) substr_two
    | inr e ↦ three_of ts (number_is (count ts) 3 e) (Taken b.Substr) substr_three
  ]
  taken b.Split ts n = elim (either_of (count ts == 2) (count ts == 3) n) [
    | inl e ↦ two_of ts (number_is (count ts) 2 e) (Taken b.Split) split_two
    | inr e ↦ three_of ts (number_is (count ts) 3 e) (Taken b.Split) split_three
  ]
  taken b.Match ts n = two_of ts (number_is (count ts) 2 n) (Taken b.Match)
      (λ a d h. (h.0.0 (at0 b.Match a (more d none) h), pattern_at s d (at1 b.Match a d none h) h.0.1.0))
  taken b.Sub ts n = three_of ts (number_is (count ts) 3 n) (Taken b.Sub) (λ a d e h. (
    pattern_at s a (at0 b.Sub a (more d (more e none)) h) h.0.0,
    h.0.1.0 (at1 b.Sub a d (more e none) h),
    target_at s e (lvalue_is e h.2) (at2 b.Sub a d e none h) h.0.1.1.0,
  ))
  taken b.Gsub ts n = three_of ts (number_is (count ts) 3 n) (Taken b.Gsub) (λ a d e h. (
    pattern_at s a (at0 b.Gsub a (more d (more e none)) h) h.0.0,
    h.0.1.0 (at1 b.Gsub a d (more e none) h),
    target_at s e (lvalue_is e h.2) (at2 b.Gsub a d e none h) h.0.1.1.0,
  ))
  taken b.Sprintf ts n = some_of ts n (Taken b.Sprintf) (λ a us h.
      (h.0.0 (at0 b.Sprintf a us h), shown s 1 us h.0.1 (rest s (of_builtin b.Sprintf) (Some b.Sprintf) 0 a us h.1)))

  -- ---- expressions

  mutual
    pub proper : (a : Tree) → Holds s a
    proper (number n) h = omega (arith, h.2)
    proper (string x) h = tt
    proper (ere x) h = let no : binary double.Match _ _ ≡ ere x = h.0 in cc
    proper (variable x) h = h.3.0
    proper (element x ts) h = (h.3.0, listed s 0 ts (each ts) (h.1.1, h.2.1, h.3.1, h.4))
    proper (unary op a) h = under_at s op a h.1.0 (h.1.1, h.1.2, h.2, h.3, h.4) (proper a)
    proper (binary op a d) h =
        let known = known_parts s (mentions (role_left op) a) (mentions as_value d) h.3 in
        let between = expression_parts s (of_tree a) (of_tree d) h.4 in
        let left = left_at s op a h.1.0 (h.1.1, h.1.3, h.2.0, known.0, between.0) (proper a) in
        (left.0, left.1, right_at s (takes_ere op) d (h.1.2, h.1.4, h.2.1, known.1, between.1) (proper d))
    proper (choice a d e) h =
        let known = known_parts s (mentions as_value a ++ mentions as_value d) (mentions as_value e) h.3 in
        let others = known_parts s (mentions as_value a) (mentions as_value d) known.0 in
        let between = expression_parts s (of_tree a ++ of_tree d) (of_tree e) h.4 in
        let before = expression_parts s (of_tree a) (of_tree d) between.0 in (
          proper a (h.1.0.0, h.1.0.1, h.2.0, others.0, before.0),
          proper d (h.1.1.0, h.1.1.1, h.2.1, others.1, before.1),
          proper e (h.1.2.0, h.1.2.1, h.2.2, known.1, between.1),
        )
    proper (member ts x) h = (h.3.0, listed s 0 ts (each ts) (h.1.1, h.2.0, h.3.1, h.4))
    proper (tree.call f ts) h = (h.3.0, passed s f 0 ts (each ts) (h.1, h.2.1, h.3.1, h.4))
    proper (tree.builtin f ts) h =
        let fit = both_of (takes f (count ts)) (has_targets f ts) h.3.0 in
        taken f ts fit.0 (each ts, (h.1.1, h.2, h.3.1, h.4), fit.1)

    each : (ts : Trees) → HoldAll s ts
    each none = tt
    each (more a ts) = (proper a, each ts)

  pub all_proper : (ts : Trees) → FitRoles s plain None 0 ts → AreProper s ts
  all_proper ts h = listed s 0 ts (each ts) h
