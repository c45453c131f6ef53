-- The code of an expression is another writing of it.
use Rattle.std.proofs.Common.{◌≡◌, ◌<◌, ℕ, Bool, true, false, pos, negsuc, ◌||◌, Option, Some, None, refl, sym, ap, ap₂, ◌∙◌}
use Rattle.std.specs.Prelude.{is_some, unwrap_or}
use Rattle.pawk_lex.specs.Bytes.{Text}
use Rattle.pawk_lex.specs.declared.token.Builtin.{Builtin}
use Rattle.pawk_lex.specs.declared.token.Builtin.TheVariants as b
use Rattle.pawk_value.specs.Limits.{number_limit}
use Rattle.pawk_syntax_tree.specs.declared.tree.Single.{Single}
use Rattle.pawk_syntax_tree.specs.declared.tree.Single.TheVariants as single
use Rattle.pawk_syntax_tree.specs.declared.tree.Double.{Double}
use Rattle.pawk_syntax_tree.specs.declared.tree.Double.TheVariants as double
use Rattle.pawk_syntax_tree.specs.Tree.{Tree, Trees, string, ere, variable, element, unary, binary, builtin}
use Rattle.pawk_syntax_tree.specs.Tree as tree
use Rattle.pawk_code.specs.declared.leaf.Special.{Special}
use Rattle.pawk_code.specs.Expressions.{number, text, global, local, field, Expr, leaf, textual, read, Exprs, none, more, join}
use Rattle.pawk_resolve.specs.Slots.{place}
use Rattle.pawk_resolve.specs.Scopes.{Scope, is_array, special_of, leaf_at, leaf_of, array_at, array_of}
use Rattle.pawk_resolve.specs.Sorted.{numeral, field_of, place_of, snoc, join_of, pattern_of, fields_of, array_named, argument_named, argument_of, format_by}
use Rattle.pawk_resolve.specs.Resolved.{resolved, resolved_all, resolved_arguments}
use Rattle.pawk_resolve_law.specs.Names.{array_name}
use Rattle.pawk_resolve_law.specs.Spelled.{numeral_of, one, two, three, spelled_leaf, spelled, spelled_all, spelled_arguments, spelled_argument, spelled_place, spelled_after, spelled_pattern, spelled_fields, spelled_format}
use Rattle.pawk_resolve_law.specs.Fits.{Fits}
use Rattle.pawk_resolve_law.specs.Proper.{IsScalar, IsArray, IsNamed, IsTarget, IsArrayName, IsPassed, IsPattern, IsProper, AreProper, ArePassed}
use Rattle.pawk_resolve_law.proofs.Lookups.{place_name, slot_name, special_is}
use Rattle.pawk_resolve_law.proofs.Normal.{IsStored, stored, numeral_is, fits}

-- ---- names

name_back : (s : Scope) (x : Text) (o : Option ℕ) (p : Option Special) (q : Option ℕ) → place s.parameters x ≡ o → special_of x ≡ p →
    place s.globals.scalars x ≡ q → (is_some o || (is_some p || is_some q)) ≡ true → spelled_leaf s (leaf_at o p (unwrap_or q 0)) ≡ variable x
name_back s x (Some i) p q e f g h = ap variable (place_name s.parameters x i e).1
name_back s x None (Some r) q e f g h = ap variable (sym (special_is x r f))
name_back s x None None (Some n) e f g h = ap variable (place_name s.globals.scalars x n g).1
name_back s x None None None e f g h = let no : false ≡ true = h in cc

pub scalar_back : (s : Scope) (x : Text) → IsScalar s x → spelled_leaf s (leaf_of s x) ≡ variable x
scalar_back s x h = name_back s x (place s.parameters x) (special_of x) (place s.globals.scalars x) refl refl refl h.1

array_back_at : (s : Scope) (x : Text) (o q : Option ℕ) → place s.parameters x ≡ o → place s.globals.arrays x ≡ q →
    (is_some o || is_some q) ≡ true → array_name s (array_at o (unwrap_or q 0)) ≡ x
array_back_at s x (Some i) q e f h = (place_name s.parameters x i e).1
array_back_at s x None (Some n) e f h = (place_name s.globals.arrays x n f).1
array_back_at s x None None e f h = let no : false ≡ true = h in cc

pub array_back : (s : Scope) (x : Text) → IsArray s x → array_name s (array_of s x) ≡ x
array_back s x h = array_back_at s x (place s.parameters x) (place s.globals.arrays x) refl refl h.1

numeral_back : (n : ℕ) → n < number_limit → numeral_of (numeral n) ≡ n
numeral_back n h = ap numeral_of (numeral_is n h)

-- ---- codes put together

place_back : (s : Scope) (e : Expr) → IsStored e → Fits s e → spelled_place s (place_of e) ≡ spelled s e
place_back s (leaf (global n)) i h = refl
place_back s (leaf (local n)) i h = refl
place_back s (leaf (field n)) i h = ap (λ m. unary single.Field (tree.number m)) (numeral_back n h)
place_back s (read p) i h = refl
place_back s _ i h = absurd i

target_back : (s : Scope) (t : Tree) → IsTarget s t → IsProper s t → spelled s (resolved s t) ≡ t → spelled_place s (place_of (resolved s t)) ≡ t
target_back s t i h e = place_back s (resolved s t) (stored s t i) (fits s t h) ∙ e

field_back : (s : Scope) (e : Expr) → Fits s e → spelled s (field_of e) ≡ unary single.Field (spelled s e)
field_back s (leaf (number (pos n))) h = refl
field_back s (leaf (number (negsuc n))) h = absurd h
field_back s _ h = refl

after_more : (s : Scope) (es : Exprs) (e : Expr) (t : Tree) → spelled_after s (snoc es e) t ≡ binary double.Concatenate (spelled_after s es t) (spelled s e)
after_more s none e t = refl
after_more s (more a es) e t = after_more s es e (binary double.Concatenate t (spelled s a))

join_back : (s : Scope) (a d : Expr) → Fits s a → spelled s (join_of a d) ≡ binary double.Concatenate (spelled s a) (spelled s d)
join_back s (textual (join none)) d h = absurd h.0
join_back s (textual (join (more a es))) d h = after_more s es d (spelled s a)
join_back s _ d h = refl

pub format_back : (s : Scope) (e : Expr) → spelled_format s (format_by e) ≡ spelled s e
format_back s (leaf (text x)) = refl
format_back s _ = refl

pattern_back : (s : Scope) (t : Tree) → IsPattern s t (IsProper s t) → (IsProper s t → spelled s (resolved s t) ≡ t) → spelled_pattern s (pattern_of s t (resolved s t)) ≡ t
pattern_back s (ere x) h k = ap ere (slot_name s.globals.expressions x h).1
pattern_back s _ h k = k h

fields_back : (s : Scope) (t : Tree) → IsPattern s t (IsProper s t) → (IsProper s t → spelled s (resolved s t) ≡ t) → spelled_fields s (fields_of s t (resolved s t)) ≡ one t
fields_back s (ere x) h k = ap (λ y. one (ere y)) (slot_name s.globals.expressions x h).1
fields_back s _ h k = ap one (k h)

named_back : (s : Scope) (x : Text) (g : Bool) → IsNamed s g x → spelled_argument s (argument_named g (array_of s x) (leaf (leaf_of s x))) ≡ variable x
named_back s x true h = ap variable (array_back s x h)
named_back s x false h = scalar_back s x h

argument_back : (s : Scope) (t : Tree) → IsPassed s t (IsProper s t) → (IsProper s t → spelled s (resolved s t) ≡ t) → spelled_argument s (argument_of s t (resolved s t)) ≡ t
argument_back s (variable x) h k = named_back s x (is_array s x) h
argument_back s _ h k = k h

filled_back : (s : Scope) (t : Tree) → IsArrayName s t → variable (array_name s (array_named s t)) ≡ t
filled_back s (variable x) h = ap variable (array_back s x h)
filled_back s _ h = absurd h

unary_back : (s : Scope) (op : Single) (a : Tree) → (IsProper s a → spelled s (resolved s a) ≡ a) → IsProper s (unary op a) → spelled s (resolved s (unary op a)) ≡ unary op a
unary_back s single.Field a k h = field_back s (resolved s a) (fits s a h.1) ∙ ap (unary single.Field) (k h.1)
unary_back s single.Not a k h = ap (unary single.Not) (k h.1)
unary_back s single.Plus a k h = ap (unary single.Plus) (k h.1)
unary_back s single.Minus a k h = ap (unary single.Minus) (k h.1)
unary_back s single.IncrementBefore a k h = ap (unary single.IncrementBefore) (target_back s a h.0 h.1 (k h.1))
unary_back s single.DecrementBefore a k h = ap (unary single.DecrementBefore) (target_back s a h.0 h.1 (k h.1))
unary_back s single.IncrementAfter a k h = ap (unary single.IncrementAfter) (target_back s a h.0 h.1 (k h.1))
unary_back s single.DecrementAfter a k h = ap (unary single.DecrementAfter) (target_back s a h.0 h.1 (k h.1))

with_two : (op : Double) (a x d y : Tree) → a ≡ x → d ≡ y → binary op a d ≡ binary op x y
with_two op a x d y e f = ap₂ (λ p q. binary op p q) e f

binary_back : (s : Scope) (op : Double) (a d : Tree) → (IsProper s a → spelled s (resolved s a) ≡ a) → (IsProper s d → spelled s (resolved s d) ≡ d) →
    IsProper s (binary op a d) → spelled s (resolved s (binary op a d)) ≡ binary op a d
binary_back s double.Or a d k l h = with_two double.Or _ _ _ _ (k h.1) (l h.2)
binary_back s double.And a d k l h = with_two double.And _ _ _ _ (k h.1) (l h.2)
binary_back s double.Match a d k l h = with_two double.Match _ _ _ _ (k h.1) (pattern_back s d h.2 l)
binary_back s double.NotMatch a d k l h = with_two double.NotMatch _ _ _ _ (k h.1) (pattern_back s d h.2 l)
binary_back s double.Less a d k l h = with_two double.Less _ _ _ _ (k h.1) (l h.2)
binary_back s double.LessEqual a d k l h = with_two double.LessEqual _ _ _ _ (k h.1) (l h.2)
binary_back s double.Equal a d k l h = with_two double.Equal _ _ _ _ (k h.1) (l h.2)
binary_back s double.NotEqual a d k l h = with_two double.NotEqual _ _ _ _ (k h.1) (l h.2)
binary_back s double.Greater a d k l h = with_two double.Greater _ _ _ _ (k h.1) (l h.2)
binary_back s double.GreaterEqual a d k l h = with_two double.GreaterEqual _ _ _ _ (k h.1) (l h.2)
binary_back s double.Concatenate a d k l h =
    join_back s (resolved s a) (resolved s d) (fits s a h.1) ∙ with_two double.Concatenate _ _ _ _ (k h.1) (l h.2)
binary_back s double.Add a d k l h = with_two double.Add _ _ _ _ (k h.1) (l h.2)
binary_back s double.Subtract a d k l h = with_two double.Subtract _ _ _ _ (k h.1) (l h.2)
binary_back s double.Multiply a d k l h = with_two double.Multiply _ _ _ _ (k h.1) (l h.2)
binary_back s double.Divide a d k l h = with_two double.Divide _ _ _ _ (k h.1) (l h.2)
binary_back s double.Remainder a d k l h = with_two double.Remainder _ _ _ _ (k h.1) (l h.2)
binary_back s double.Power a d k l h = with_two double.Power _ _ _ _ (k h.1) (l h.2)
binary_back s double.Assign a d k l h = with_two double.Assign _ _ _ _ (target_back s a h.0 h.1 (k h.1)) (l h.2)
binary_back s double.AddAssign a d k l h = with_two double.AddAssign _ _ _ _ (target_back s a h.0 h.1 (k h.1)) (l h.2)
binary_back s double.SubtractAssign a d k l h = with_two double.SubtractAssign _ _ _ _ (target_back s a h.0 h.1 (k h.1)) (l h.2)
binary_back s double.MultiplyAssign a d k l h = with_two double.MultiplyAssign _ _ _ _ (target_back s a h.0 h.1 (k h.1)) (l h.2)
binary_back s double.DivideAssign a d k l h = with_two double.DivideAssign _ _ _ _ (target_back s a h.0 h.1 (k h.1)) (l h.2)
binary_back s double.RemainderAssign a d k l h = with_two double.RemainderAssign _ _ _ _ (target_back s a h.0 h.1 (k h.1)) (l h.2)
binary_back s double.PowerAssign a d k l h = with_two double.PowerAssign _ _ _ _ (target_back s a h.0 h.1 (k h.1)) (l h.2)

with_three : (f : Builtin) (a x d y e z : Tree) → a ≡ x → d ≡ y → e ≡ z → builtin f (three a d e) ≡ builtin f (three x y z)
with_three f a x d y e z p q r = ap₂ (λ u v. builtin f (tree.more u v)) p (ap₂ (λ u v. two u v) q r)

choice_of : (a x d y e z : Tree) → a ≡ x → d ≡ y → e ≡ z → tree.choice a d e ≡ tree.choice x y z
choice_of a x d y e z p q r = ap₂ (λ u v. u v) (ap₂ (λ u v. tree.choice u v) p q) r

split_back : (a x d y : Tree) (ts us : Trees) → a ≡ x → d ≡ y → ts ≡ us → builtin b.Split (tree.more a (tree.more d ts)) ≡ builtin b.Split (tree.more x (tree.more y us))
split_back a x d y ts us p q r = ap₂ (λ u v. builtin b.Split (tree.more u v)) p (ap₂ (λ u v. tree.more u v) q r)

-- ---- expressions

mutual
  pub spells : (s : Scope) (t : Tree) → IsProper s t → spelled s (resolved s t) ≡ t
  spells s (tree.number n) h = ap tree.number (numeral_back n h)
  spells s (tree.string x) h = refl
  spells s (tree.ere x) h = absurd h
  spells s (tree.variable x) h = scalar_back s x h
  spells s (tree.element x ts) h = ap₂ (λ y us. tree.element y us) (array_back s x h.0) (spells_all s ts h.1)
  spells s (tree.unary op a) h = unary_back s op a (spells s a) h
  spells s (tree.binary op a d) h = binary_back s op a d (spells s a) (spells s d) h
  spells s (tree.choice c a d) h = choice_of _ _ _ _ _ _ (spells s c h.0) (spells s a h.1) (spells s d h.2)
  spells s (tree.member ts x) h = ap₂ (λ us y. tree.member us y) (spells_all s ts h.1) (array_back s x h.0)
  spells s (tree.call f ts) h = ap₂ (λ g us. tree.call g us) (slot_name s.globals.functions f h.0).1 (spells_passed s ts h.1)
  spells s (tree.builtin b.Length (tree.more a tree.none)) h = ap (λ x. builtin b.Length (one x)) (spells s a h)
  spells s (tree.builtin b.Int (tree.more a tree.none)) h = ap (λ x. builtin b.Int (one x)) (spells s a h)
  spells s (tree.builtin b.Tolower (tree.more a tree.none)) h = ap (λ x. builtin b.Tolower (one x)) (spells s a h)
  spells s (tree.builtin b.Toupper (tree.more a tree.none)) h = ap (λ x. builtin b.Toupper (one x)) (spells s a h)
  spells s (tree.builtin b.Index (tree.more a (tree.more d tree.none))) h = ap₂ (λ x y. builtin b.Index (two x y)) (spells s a h.0) (spells s d h.1)
  spells s (tree.builtin b.Substr (tree.more a (tree.more d tree.none))) h = ap₂ (λ x y. builtin b.Substr (two x y)) (spells s a h.0) (spells s d h.1)
  spells s (tree.builtin b.Substr (tree.more a (tree.more d (tree.more e tree.none)))) h =
      with_three b.Substr _ _ _ _ _ _ (spells s a h.0) (spells s d h.1) (spells s e h.2)
  spells s (tree.builtin b.Split (tree.more a (tree.more d tree.none))) h = split_back _ _ _ _ _ _ (spells s a h.0) (filled_back s d h.1) refl
  spells s (tree.builtin b.Split (tree.more a (tree.more d (tree.more e tree.none)))) h =
      split_back _ _ _ _ _ _ (spells s a h.0) (filled_back s d h.1) (fields_back s e h.2 (spells s e))
  spells s (tree.builtin b.Match (tree.more a (tree.more d tree.none))) h =
      ap₂ (λ x y. builtin b.Match (two x y)) (spells s a h.0) (pattern_back s d h.1 (spells s d))
  spells s (tree.builtin b.Sub (tree.more a (tree.more d (tree.more e tree.none)))) h =
      with_three b.Sub _ _ _ _ _ _ (pattern_back s a h.0 (spells s a)) (spells s d h.1) (target_back s e h.2.0 h.2.1 (spells s e h.2.1))
  spells s (tree.builtin b.Gsub (tree.more a (tree.more d (tree.more e tree.none)))) h =
      with_three b.Gsub _ _ _ _ _ _ (pattern_back s a h.0 (spells s a)) (spells s d h.1) (target_back s e h.2.0 h.2.1 (spells s e h.2.1))
  spells s (tree.builtin b.Sprintf (tree.more a ts)) h =
      ap₂ (λ x us. builtin b.Sprintf (tree.more x us)) (format_back s (resolved s a) ∙ spells s a h.0) (spells_all s ts h.1)
  spells s (tree.builtin _ _) h = absurd h

  pub spells_all : (s : Scope) (ts : Trees) → AreProper s ts → spelled_all s (resolved_all s ts) ≡ ts
  spells_all s tree.none h = refl
  spells_all s (tree.more t ts) h = ap₂ (λ x us. tree.more x us) (spells s t h.0) (spells_all s ts h.1)

  spells_passed : (s : Scope) (ts : Trees) → ArePassed s ts → spelled_arguments s (resolved_arguments s ts) ≡ ts
  spells_passed s tree.none h = refl
  spells_passed s (tree.more t ts) h = ap₂ (λ x us. tree.more x us) (argument_back s t h.0 (spells s t)) (spells_passed s ts h.1)
