-- The code of an expression is in normal form.
use Rattle.std.proofs.Common.{◌≡◌, ◌<◌, ℕ, Bool, true, false, pos, negsuc, ◌||◌, Option, Some, None, refl, sym, ap, subst, ◌∙◌, lt-ltb}
use Rattle.std.specs.Prelude.{is_some, unwrap_or}
use Rattle.pawk_lex.specs.Bytes.{Text}
use Rattle.pawk_lex.specs.declared.token.Builtin.TheVariants as b
use Rattle.pawk_value.specs.Limits.{number_limit}
use Rattle.pawk_syntax_tree.specs.declared.tree.Single.{Single}
use Rattle.pawk_syntax_tree.specs.declared.tree.Single.TheVariants as single
use Rattle.pawk_syntax_tree.specs.declared.tree.Double.{Double}
use Rattle.pawk_syntax_tree.specs.declared.tree.Double.TheVariants as double
use Rattle.pawk_syntax_tree.specs.Tree.{Tree, Trees, string, ere, variable, element, unary, binary, builtin}
use Rattle.pawk_syntax_tree.specs.Tree as tree
use Rattle.pawk_code.specs.declared.leaf.Special.{Special}
use Rattle.pawk_code.specs.Expressions.{number, text, global, local, field, Expr, leaf, textual, read, Exprs, none, more, Place, to_global, to_local, to_element, to_field, join}
use Rattle.pawk_resolve.specs.Slots.{place, slot}
use Rattle.pawk_resolve.specs.Scopes.{Scope, is_array, special_of, leaf_at, leaf_of, array_at, array_of}
use Rattle.pawk_resolve.specs.Sorted.{numeral, field_of, place_of, snoc, join_of, pattern_of, fields_of, array_named, argument_named, argument_of, format_by}
use Rattle.pawk_resolve.specs.Resolved.{resolved, resolved_all, resolved_arguments}
use Rattle.pawk_resolve_law.specs.Fits.{IsConstant, AreParts, FitsLeaf, FitsArray, Fits, FitsAll, FitsArguments, FitsArgument, FitsPlace, FitsRead, FitsPattern, FitsFields, FitsFormat}
use Rattle.pawk_resolve_law.specs.Proper.{IsScalar, IsArray, IsNamed, IsTarget, IsArrayName, IsPassed, IsPattern, IsProper, AreProper, ArePassed}
use Rattle.pawk_resolve_law.proofs.Lookups.{place_name, slot_name}

-- what code may be assigned
abbrev pub IsStored : Expr → Type 0
IsStored (leaf (global n)) = Unit {0}
IsStored (leaf (local n)) = Unit {0}
IsStored (leaf (field n)) = Unit {0}
IsStored (read p) = Unit {0}
IsStored _ = ⊥

stored_at : (o : Option ℕ) (p : Option Special) (n : ℕ) → p ≡ None → IsStored (leaf (leaf_at o p n))
stored_at (Some i) p n h = tt
stored_at None None n h = tt
stored_at None (Some r) n h = let no : Some r ≡ None = h in cc

stored_field : (e : Expr) → IsStored (field_of e)
stored_field (leaf (number (pos n))) = tt
stored_field _ = tt

pub stored : (s : Scope) (t : Tree) → IsTarget s t → IsStored (resolved s t)
stored s (variable x) h = stored_at (place s.parameters x) (special_of x) (slot s.globals.scalars x) h
stored s (element x ts) h = tt
stored s (unary single.Field a) h = stored_field (resolved s a)
stored s _ h = absurd h

pub numeral_is : (n : ℕ) → n < number_limit → numeral n ≡ pos n
numeral_is n h = rw (lt-ltb n number_limit h) refl

-- ---- names

fits_at : (s : Scope) (x : Text) (o : Option ℕ) (p : Option Special) (q : Option ℕ) → place s.parameters x ≡ o → place s.globals.scalars x ≡ q →
    is_array s x ≡ false → (is_some o || (is_some p || is_some q)) ≡ true → FitsLeaf s (leaf_at o p (unwrap_or q 0))
fits_at s x (Some i) p q e f k h =
    let at = place_name s.parameters x i e in
    (at.0, ap (is_array s) at.1 ∙ k)
fits_at s x None (Some r) q e f k h = tt
fits_at s x None None (Some n) e f k h =
    let at = place_name s.globals.scalars x n f in
    (at.0, ap (place s.parameters) at.1 ∙ e, ap (is_array s) at.1 ∙ k)
fits_at s x None None None e f k h = let no : false ≡ true = h in cc

pub scalar_fits : (s : Scope) (x : Text) → IsScalar s x → FitsLeaf s (leaf_of s x)
scalar_fits s x h = fits_at s x (place s.parameters x) (special_of x) (place s.globals.scalars x) refl refl h.0 h.1

array_fits_at : (s : Scope) (x : Text) (o q : Option ℕ) → place s.parameters x ≡ o → place s.globals.arrays x ≡ q →
    is_array s x ≡ true → (is_some o || is_some q) ≡ true → FitsArray s (array_at o (unwrap_or q 0))
array_fits_at s x (Some i) q e f k h =
    let at = place_name s.parameters x i e in
    (at.0, ap (is_array s) at.1 ∙ k)
array_fits_at s x None (Some n) e f k h =
    let at = place_name s.globals.arrays x n f in
    (at.0, ap (place s.parameters) at.1 ∙ e, ap (is_array s) at.1 ∙ k)
array_fits_at s x None None e f k h = let no : false ≡ true = h in cc

pub array_fits : (s : Scope) (x : Text) → IsArray s x → FitsArray s (array_of s x)
array_fits s x h = array_fits_at s x (place s.parameters x) (place s.globals.arrays x) refl refl h.0 h.1

-- ---- codes put together

read_fits : (s : Scope) (p : Place) → FitsRead s p → FitsPlace s p
read_fits s (to_global n) h = absurd h
read_fits s (to_local n) h = absurd h
read_fits s (to_element a es) h = h
read_fits s (to_field e) h = h.1

pub place_fits : (s : Scope) (e : Expr) → IsStored e → Fits s e → FitsPlace s (place_of e)
place_fits s (leaf (global n)) i h = h
place_fits s (leaf (local n)) i h = h
place_fits s (leaf (field n)) i h = subst IsConstant (sym (numeral_is n h)) h
place_fits s (read p) i h = read_fits s p h
place_fits s _ i h = absurd i

target_fits : (s : Scope) (t : Tree) → IsTarget s t → Fits s (resolved s t) → FitsPlace s (place_of (resolved s t))
target_fits s t i h = place_fits s (resolved s t) (stored s t i) h

field_fits : (s : Scope) (e : Expr) → Fits s e → Fits s (field_of e)
field_fits s (leaf (number (pos n))) h = h
field_fits s (leaf (number (negsuc n))) h = absurd h
field_fits s _ h = (tt, h)

parts_more : (es : Exprs) (e : Expr) → AreParts es → AreParts (snoc es e)
parts_more none e h = absurd h
parts_more (more a none) e h = absurd h
parts_more (more a (more d es)) e h = h

all_more : (s : Scope) (es : Exprs) (e : Expr) → FitsAll s es → Fits s e → FitsAll s (snoc es e)
all_more s none e h k = (k, tt)
all_more s (more a es) e h k = (h.0, all_more s es e h.1 k)

join_fits : (s : Scope) (a d : Expr) → Fits s a → Fits s d → Fits s (join_of a d)
join_fits s (textual (join es)) d h k = (parts_more es d h.0, all_more s es d h.1 k)
join_fits s _ d h k = (tt, (h, (k, tt)))

pub format_fits : (s : Scope) (e : Expr) → Fits s e → FitsFormat s (format_by e)
format_fits s (leaf (text x)) h = tt
format_fits s _ h = (tt, h)

pattern_fits : (s : Scope) (t : Tree) → IsPattern s t (IsProper s t) → (IsProper s t → Fits s (resolved s t)) → FitsPattern s (pattern_of s t (resolved s t))
pattern_fits s (ere x) h k = (slot_name s.globals.expressions x h).0
pattern_fits s _ h k = k h

fields_fit : (s : Scope) (t : Tree) → IsPattern s t (IsProper s t) → (IsProper s t → Fits s (resolved s t)) → FitsFields s (fields_of s t (resolved s t))
fields_fit s (ere x) h k = (slot_name s.globals.expressions x h).0
fields_fit s _ h k = k h

named_fits : (s : Scope) (x : Text) (g : Bool) → IsNamed s g x → FitsArgument s (argument_named g (array_of s x) (leaf (leaf_of s x)))
named_fits s x true h = array_fits s x h
named_fits s x false h = scalar_fits s x h

argument_fits : (s : Scope) (t : Tree) → IsPassed s t (IsProper s t) → (IsProper s t → Fits s (resolved s t)) → FitsArgument s (argument_of s t (resolved s t))
argument_fits s (variable x) h k = named_fits s x (is_array s x) h
argument_fits s _ h k = k h

unary_fits : (s : Scope) (op : Single) (a : Tree) → (IsProper s a → Fits s (resolved s a)) → IsProper s (unary op a) → Fits s (resolved s (unary op a))
unary_fits s single.Field a k h = field_fits s (resolved s a) (k h.1)
unary_fits s single.Not a k h = k h.1
unary_fits s single.Plus a k h = k h.1
unary_fits s single.Minus a k h = k h.1
unary_fits s single.IncrementBefore a k h = target_fits s a h.0 (k h.1)
unary_fits s single.DecrementBefore a k h = target_fits s a h.0 (k h.1)
unary_fits s single.IncrementAfter a k h = target_fits s a h.0 (k h.1)
unary_fits s single.DecrementAfter a k h = target_fits s a h.0 (k h.1)

binary_fits : (s : Scope) (op : Double) (a d : Tree) → (IsProper s a → Fits s (resolved s a)) → (IsProper s d → Fits s (resolved s d)) →
    IsProper s (binary op a d) → Fits s (resolved s (binary op a d))
binary_fits s double.Or a d k l h = (k h.1, l h.2)
binary_fits s double.And a d k l h = (k h.1, l h.2)
binary_fits s double.Match a d k l h = (k h.1, pattern_fits s d h.2 l)
binary_fits s double.NotMatch a d k l h = (k h.1, pattern_fits s d h.2 l)
binary_fits s double.Less a d k l h = (k h.1, l h.2)
binary_fits s double.LessEqual a d k l h = (k h.1, l h.2)
binary_fits s double.Equal a d k l h = (k h.1, l h.2)
binary_fits s double.NotEqual a d k l h = (k h.1, l h.2)
binary_fits s double.Greater a d k l h = (k h.1, l h.2)
binary_fits s double.GreaterEqual a d k l h = (k h.1, l h.2)
binary_fits s double.Concatenate a d k l h = join_fits s (resolved s a) (resolved s d) (k h.1) (l h.2)
binary_fits s double.Add a d k l h = (k h.1, l h.2)
binary_fits s double.Subtract a d k l h = (k h.1, l h.2)
binary_fits s double.Multiply a d k l h = (k h.1, l h.2)
binary_fits s double.Divide a d k l h = (k h.1, l h.2)
binary_fits s double.Remainder a d k l h = (k h.1, l h.2)
binary_fits s double.Power a d k l h = (k h.1, l h.2)
binary_fits s double.Assign a d k l h = (target_fits s a h.0 (k h.1), l h.2)
binary_fits s double.AddAssign a d k l h = (target_fits s a h.0 (k h.1), l h.2)
binary_fits s double.SubtractAssign a d k l h = (target_fits s a h.0 (k h.1), l h.2)
binary_fits s double.MultiplyAssign a d k l h = (target_fits s a h.0 (k h.1), l h.2)
binary_fits s double.DivideAssign a d k l h = (target_fits s a h.0 (k h.1), l h.2)
binary_fits s double.RemainderAssign a d k l h = (target_fits s a h.0 (k h.1), l h.2)
binary_fits s double.PowerAssign a d k l h = (target_fits s a h.0 (k h.1), l h.2)

split_fits : (s : Scope) (t : Tree) → IsArrayName s t → FitsArray s (array_named s t)
split_fits s (variable x) h = array_fits s x h
split_fits s _ h = absurd h

-- ---- expressions

mutual
  pub fits : (s : Scope) (t : Tree) → IsProper s t → Fits s (resolved s t)
  fits s (tree.number n) h = subst IsConstant (sym (numeral_is n h)) h
  fits s (tree.string x) h = tt
  fits s (tree.ere x) h = absurd h
  fits s (tree.variable x) h = scalar_fits s x h
  fits s (tree.element x ts) h = (array_fits s x h.0, fits_all s ts h.1)
  fits s (tree.unary op a) h = unary_fits s op a (fits s a) h
  fits s (tree.binary op a d) h = binary_fits s op a d (fits s a) (fits s d) h
  fits s (tree.choice c a d) h = (fits s c h.0, fits s a h.1, fits s d h.2)
  fits s (tree.member ts x) h = (array_fits s x h.0, fits_all s ts h.1)
  fits s (tree.call f ts) h = ((slot_name s.globals.functions f h.0).0, fits_passed s ts h.1)
  fits s (tree.builtin b.Length (tree.more a tree.none)) h = fits s a h
  fits s (tree.builtin b.Int (tree.more a tree.none)) h = fits s a h
  fits s (tree.builtin b.Tolower (tree.more a tree.none)) h = fits s a h
  fits s (tree.builtin b.Toupper (tree.more a tree.none)) h = fits s a h
  fits s (tree.builtin b.Index (tree.more a (tree.more d tree.none))) h = (fits s a h.0, fits s d h.1)
  fits s (tree.builtin b.Substr (tree.more a (tree.more d tree.none))) h = (fits s a h.0, fits s d h.1)
  fits s (tree.builtin b.Substr (tree.more a (tree.more d (tree.more e tree.none)))) h = (fits s a h.0, fits s d h.1, fits s e h.2)
  fits s (tree.builtin b.Split (tree.more a (tree.more d tree.none))) h = (fits s a h.0, split_fits s d h.1, tt)
  fits s (tree.builtin b.Split (tree.more a (tree.more d (tree.more e tree.none)))) h = (fits s a h.0, split_fits s d h.1, fields_fit s e h.2 (fits s e))
  fits s (tree.builtin b.Match (tree.more a (tree.more d tree.none))) h = (fits s a h.0, pattern_fits s d h.1 (fits s d))
  fits s (tree.builtin b.Sub (tree.more a (tree.more d (tree.more e tree.none)))) h =
      (pattern_fits s a h.0 (fits s a), fits s d h.1, target_fits s e h.2.0 (fits s e h.2.1))
  fits s (tree.builtin b.Gsub (tree.more a (tree.more d (tree.more e tree.none)))) h =
      (pattern_fits s a h.0 (fits s a), fits s d h.1, target_fits s e h.2.0 (fits s e h.2.1))
  fits s (tree.builtin b.Sprintf (tree.more a ts)) h = (format_fits s (resolved s a) (fits s a h.0), fits_all s ts h.1)
  fits s (tree.builtin _ _) h = absurd h

  pub fits_all : (s : Scope) (ts : Trees) → AreProper s ts → FitsAll s (resolved_all s ts)
  fits_all s tree.none h = tt
  fits_all s (tree.more t ts) h = (fits s t h.0, fits_all s ts h.1)

  fits_passed : (s : Scope) (ts : Trees) → ArePassed s ts → FitsArguments s (resolved_arguments s ts)
  fits_passed s tree.none h = tt
  fits_passed s (tree.more t ts) h = (argument_fits s t h.0 (fits s t), fits_passed s ts h.1)
