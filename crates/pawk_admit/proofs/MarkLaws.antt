-- What the marks of a name say of the list that they are of.
use Rattle.std.proofs.Common.{◌≡◌, ℕ, zero, suc, ◌<◌, Bool, true, false, List, [], ◌∷◌, length, get_or, refl, sym, ap, subst, inl, inr, ◌⊎◌, arith}
use Rattle.std.specs.Prelude.{Contains, if◌then◌else◌}
use Rattle.std.proofs.lemmas.Bool.{eqb-true, eq-eqb}
use Rattle.pawk_admit.specs.declared.occurrence.Touch.{Touch}
use Rattle.pawk_admit.specs.declared.occurrence.Touch.TheVariants.{Look, Set, Assign, Add, AddAndLook, Test, Walk, Split, Pass, Delete}
use Rattle.pawk_admit.specs.declared.occurrence.GlobalName.{GlobalName}
use Rattle.pawk_admit.specs.declared.occurrence.GlobalName.TheVariants.{Scalar, Array}
use Rattle.pawk_admit.specs.declared.occurrence.Occurrence.{Occurrence}
use Rattle.pawk_admit.specs.declared.occurrence.Occurrence.TheVariants as occurrence
use Rattle.pawk_admit.specs.declared.marks.Marks.{Marks}
use Rattle.pawk_admit.specs.Marks.{nothing, with_touch, is_name, with_occurrence, marks_from, marks_among}

-- the kinds of what is done that a table distinguishes
pub data Class : Type 0 where
  set : Class
  add : Class
  look : Class
  other : Class

abbrev pub class_of : Touch → Class
class_of Look = look
class_of Set = set
class_of Assign = other
class_of Add = add
class_of AddAndLook = add
class_of Test = other
class_of Walk = other
class_of Split = other
class_of Pass = other
class_of Delete = other

abbrev pub has : Class → Marks → Bool
has set m = m.sets
has add m = m.adds
has look m = m.looks
has other m = m.others

abbrev with_class : Marks → Class → Marks
with_class m set = record m { sets = true }
with_class m add = record m { adds = true }
with_class m look = record m { looks = true }
with_class m other = record m { others = true }

by_class : (m : Marks) (t : Touch) → with_touch m t ≡ with_class m (class_of t)
by_class m Look = refl
by_class m Set = refl
by_class m Assign = refl
by_class m Add = refl
by_class m AddAndLook = refl
by_class m Test = refl
by_class m Walk = refl
by_class m Split = refl
by_class m Pass = refl
by_class m Delete = refl

class_keeps : (m : Marks) (k c : Class) → has c m ≡ true → has c (with_class m k) ≡ true
class_keeps m set set h = refl
class_keeps m set add h = h
class_keeps m set look h = h
class_keeps m set other h = h
class_keeps m add set h = h
class_keeps m add add h = refl
class_keeps m add look h = h
class_keeps m add other h = h
class_keeps m look set h = h
class_keeps m look add h = h
class_keeps m look look h = refl
class_keeps m look other h = h
class_keeps m other set h = h
class_keeps m other add h = h
class_keeps m other look h = h
class_keeps m other other h = refl

class_here : (m : Marks) (k : Class) → has k (with_class m k) ≡ true
class_here m set = refl
class_here m add = refl
class_here m look = refl
class_here m other = refl

class_back : (m : Marks) (k c : Class) → has c (with_class m k) ≡ true → (k ≡ c) ⊎ (has c m ≡ true)
class_back m set set h = inl refl
class_back m set add h = inr h
class_back m set look h = inr h
class_back m set other h = inr h
class_back m add set h = inr h
class_back m add add h = inl refl
class_back m add look h = inr h
class_back m add other h = inr h
class_back m look set h = inr h
class_back m look add h = inr h
class_back m look look h = inl refl
class_back m look other h = inr h
class_back m other set h = inr h
class_back m other add h = inr h
class_back m other look h = inr h
class_back m other other h = inl refl

same_name : (a b : GlobalName) → is_name a b ≡ true → a ≡ b
same_name (Scalar m) (Scalar n) h = ap Scalar (eqb-true m n h)
same_name (Array m) (Array n) h = ap Array (eqb-true m n h)
same_name (Scalar m) (Array n) h = let k : false ≡ true = h in cc
same_name (Array m) (Scalar n) h = let k : false ≡ true = h in cc

itself : (a : GlobalName) → is_name a a ≡ true
itself (Scalar n) = eq-eqb n n refl
itself (Array n) = eq-eqb n n refl

keeps_if : (b : Bool) (m : Marks) (t : Touch) (c : Class) → has c m ≡ true → has c (if b then with_touch m t else m) ≡ true
keeps_if true m t c h = subst (λ x. has c x ≡ true) (sym (by_class m t)) (class_keeps m (class_of t) c h)
keeps_if false m t c h = h

back_if : (name n : GlobalName) (b : Bool) → is_name name n ≡ b → (m : Marks) (t : Touch) (c : Class) → has c (if b then with_touch m t else m) ≡ true →
    ((u : Touch) × (class_of u ≡ c) × (occurrence.Touch t n ≡ occurrence.Touch u name)) ⊎ (has c m ≡ true)
back_if name n true e m t c h = elim (class_back m (class_of t) c (subst (λ x. has c x ≡ true) (by_class m t) h)) [
  | inl same ↦ inl (t, same, ap (occurrence.Touch t) (sym (same_name name n e)))
  | inr before ↦ inr before
]
back_if name n false e m t c h = inr h

-- one occurrence
keeps_one : (m : Marks) (name : GlobalName) (o : Occurrence) (c : Class) → has c m ≡ true → has c (with_occurrence m name o) ≡ true
keeps_one m name (occurrence.Touch t n) c h = keeps_if (is_name name n) m t c h
keeps_one m name (occurrence.Call f) c h = h
keeps_one m name occurrence.Match c h = h
keeps_one m name occurrence.Range c h = h
keeps_one m name occurrence.NextFile c h = h

back_one : (m : Marks) (name : GlobalName) (o : Occurrence) (c : Class) → has c (with_occurrence m name o) ≡ true →
    ((t : Touch) × (class_of t ≡ c) × (o ≡ occurrence.Touch t name)) ⊎ (has c m ≡ true)
back_one m name (occurrence.Touch t n) c h = back_if name n (is_name name n) refl m t c h
back_one m name (occurrence.Call f) c h = inr h
back_one m name occurrence.Match c h = inr h
back_one m name occurrence.Range c h = inr h
back_one m name occurrence.NextFile c h = inr h

here_one : (m : Marks) (name : GlobalName) (t : Touch) → has (class_of t) (with_occurrence m name (occurrence.Touch t name)) ≡ true
here_one m name t = rw (itself name, by_class m t) (class_here m (class_of t))

-- all
pub keeps : (list : List Occurrence) (m : Marks) (name : GlobalName) (c : Class) → has c m ≡ true → has c (marks_from m list name) ≡ true
keeps [] m name c h = h
keeps (o ∷ os) m name c h = keeps os (with_occurrence m name o) name c (keeps_one m name o c h)

mark_from : (list : List Occurrence) (m : Marks) (name : GlobalName) (t : Touch) (k : ℕ) → k < length list →
    get_or list k (occurrence.Touch t name) ≡ occurrence.Touch t name → has (class_of t) (marks_from m list name) ≡ true
mark_from [] m name t k within is = absurd (omega (arith, within))
mark_from (o ∷ os) m name t zero within is =
    keeps os (with_occurrence m name o) name (class_of t)
    (subst (λ x. has (class_of t) (with_occurrence m name x) ≡ true) (sym is) (here_one m name t))
mark_from (o ∷ os) m name t (suc k) within is = mark_from os (with_occurrence m name o) name t k (omega (arith, within)) is

-- what is done with a name is marked
pub mark_of_touch : (list : List Occurrence) (name : GlobalName) (t : Touch) → Contains list (occurrence.Touch t name) →
    has (class_of t) (marks_among list name) ≡ true
mark_of_touch list name t h = mark_from list nothing name t h.0 h.1 h.2

Contains-cons : (o : Occurrence) (os : List Occurrence) (x : Occurrence) → Contains os x → Contains (o ∷ os) x
Contains-cons o os x h = (suc h.0, omega (arith, h.1), h.2)

Contains-first : (o : Occurrence) (os : List Occurrence) (x : Occurrence) → o ≡ x → Contains (o ∷ os) x
Contains-first o os x e = (0, omega arith, e)

no_mark_in_nothing : (c : Class) → has c nothing ≡ true → ⊥
no_mark_in_nothing set h = let e : false ≡ true = h in cc
no_mark_in_nothing add h = let e : false ≡ true = h in cc
no_mark_in_nothing look h = let e : false ≡ true = h in cc
no_mark_in_nothing other h = let e : false ≡ true = h in cc

touch_from : (list : List Occurrence) (m : Marks) (name : GlobalName) (c : Class) → has c (marks_from m list name) ≡ true →
    ((t : Touch) × (class_of t ≡ c) × Contains list (occurrence.Touch t name)) ⊎ (has c m ≡ true)
touch_from [] m name c h = inr h
touch_from (o ∷ os) m name c h = elim (touch_from os (with_occurrence m name o) name c h) [
  | inl here ↦ inl (here.0, here.1, Contains-cons o os (occurrence.Touch here.0 name) here.2)
  | inr before ↦ elim (back_one m name o c before) [
    | inl now ↦ inl (now.0, now.1, Contains-first o os (occurrence.Touch now.0 name) now.2)
    | inr m_has ↦ inr m_has
  ]
]

-- what is marked is done with the name
pub touch_of_mark : (list : List Occurrence) (name : GlobalName) (c : Class) → has c (marks_among list name) ≡ true →
    (t : Touch) × (class_of t ≡ c) × Contains list (occurrence.Touch t name)
touch_of_mark list name c h = elim (touch_from list nothing name c h) [
  | inl here ↦ here
  | inr no_mark ↦ absurd (no_mark_in_nothing c no_mark)
]
