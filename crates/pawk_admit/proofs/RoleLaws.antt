-- What holds of one text holds of another with the same occurrences, and the roles of names by their marks.
use Rattle.std.proofs.Common.{◌≡◌, ℕ, zero, suc, Bool, true, false, List, [], ◌∷◌, map, get_or, refl, sym, ap, subst, ◌∙◌, inl, inr, ◌⊎◌}
use Rattle.std.specs.Prelude.{Contains, ◌&&◌, ◌↔◌, not, if◌then◌else◌}
use Rattle.pawk_admit.specs.declared.occurrence.Touch.{Touch}
use Rattle.pawk_admit.specs.declared.occurrence.Touch.TheVariants.{Look, Set, Assign, Add, AddAndLook, Test, Walk, Split, Pass, Delete}
use Rattle.pawk_admit.specs.declared.occurrence.GlobalName.{GlobalName}
use Rattle.pawk_admit.specs.declared.occurrence.GlobalName.TheVariants.{Scalar, Array}
use Rattle.pawk_admit.specs.declared.occurrence.Occurrence.{Occurrence}
use Rattle.pawk_admit.specs.declared.reason.Reason.{Reason}
use Rattle.pawk_admit.specs.declared.reason.Reason.TheVariants as reason
use Rattle.pawk_admit.specs.declared.role.Role.{Role}
use Rattle.pawk_admit.specs.declared.role.Role.TheVariants.{Fixed, Adder, Setter, Reader}
use Rattle.pawk_admit.specs.declared.marks.Tables.{Tables}
use Rattle.pawk_admit.specs.Roles.{Roles, role_of_scalar, role_of_array}
use Rattle.pawk_admit.specs.Marks.{nothing, marks_among, AreTables}
use Rattle.pawk_admit.specs.Admission.{IsSeparator, IsAddition, Touches, OnlyTouches, IsSetter, IsAdder, IsReader, IsRole, IsAssigned, Holds, IsFirst, IsAnswer, AreRoles}
use Rattle.pawk_admit.specs.Decisions.{clashes, scalar_role, array_role}
use Rattle.pawk_admit.proofs.MarkLaws.{Class, set, add, look, other, class_of, has, mark_of_touch, touch_of_mark}
use Rattle.pawk_admit.proofs.ReasonLaws.{separating, only_look, only_add, look_alone, setter_from, additions_from, clash_means}

apart : true ≡ false → ⊥
apart h = cc

-- ---- texts with the same occurrences

only_along : (P Q : Occurrence → Type 0) → ((o : Occurrence) → P o → Q o) → ((o : Occurrence) → Q o → P o) →
    (t : Touch) (name : GlobalName) → OnlyTouches P t name → OnlyTouches Q t name
only_along P Q to from t name h = (to _ h.0, λ u q. h.1 u (from _ q))

setter_along : (P Q : Occurrence → Type 0) → ((o : Occurrence) → P o → Q o) → ((o : Occurrence) → Q o → P o) →
    (name : GlobalName) → IsSetter P name → IsSetter Q name
setter_along P Q to from name h = (only_along P Q to from Set name h.0, h.1)

reader_along : (P Q : Occurrence → Type 0) → ((o : Occurrence) → P o → Q o) → ((o : Occurrence) → Q o → P o) →
    (name : GlobalName) → IsReader P name → IsReader Q name
reader_along P Q to from name h = (h.0, only_along P Q to from Look name h.1)

role_along : (P Q : Occurrence → Type 0) → ((o : Occurrence) → P o → Q o) → ((o : Occurrence) → Q o → P o) →
    (role : Role) (name : GlobalName) → IsRole P role name → IsRole Q role name
role_along P Q to from Fixed name h =
    (λ a. h.0 (only_along Q P from to Add name a), λ s. h.1 (setter_along Q P from to name s), λ r. h.2 (reader_along Q P from to name r))
role_along P Q to from Adder name h = only_along P Q to from Add name h
role_along P Q to from Setter name h = setter_along P Q to from name h
role_along P Q to from Reader name h = reader_along P Q to from name h

assigned_along : (P Q : Occurrence → Type 0) → ((o : Occurrence) → P o → Q o) → ((o : Occurrence) → Q o → P o) →
    (name : GlobalName) → IsAssigned P name → IsAssigned Q name
assigned_along P Q to from name (inl a) = inl (to _ a)
assigned_along P Q to from name (inr (inl d)) = inr (inl (to _ d))
assigned_along P Q to from name (inr (inr s)) = inr (inr (to _ s.0, λ h. s.1 (setter_along Q P from to name h)))

target_along : (P Q : Occurrence → Type 0) → ((o : Occurrence) → P o → Q o) → (name : GlobalName) →
    Touches P Add name ⊎ Touches P AddAndLook name → Touches Q Add name ⊎ Touches Q AddAndLook name
target_along P Q to name (inl a) = inl (to _ a)
target_along P Q to name (inr b) = inr (to _ b)

beside_along : (P Q : Occurrence → Type 0) → ((o : Occurrence) → P o → Q o) → (name : GlobalName) →
    IsSeparator name ⊎ ((t : Touch) × Touches P t name × ¬ IsAddition t) → IsSeparator name ⊎ ((t : Touch) × Touches Q t name × ¬ IsAddition t)
beside_along P Q to name (inl s) = inl s
beside_along P Q to name (inr h) = inr (h.0, to _ h.1, h.2)

pub holds_along : (P Q : Occurrence → Type 0) → ((o : Occurrence) → P o → Q o) → ((o : Occurrence) → Q o → P o) →
    (r : Reason) → Holds P r → Holds Q r
holds_along P Q to from reason.Assignment h = (h.0, assigned_along P Q to from h.0 h.1)
holds_along P Q to from reason.Addition h = (h.0, (target_along P Q to h.0 h.1.0, beside_along P Q to h.0 h.1.1))
holds_along P Q to from reason.Range h = to _ h
holds_along P Q to from reason.Match h = to _ h
holds_along P Q to from reason.Split h = (h.0, to _ h.1)
holds_along P Q to from reason.Passing h = (h.0, to _ h.1)
holds_along P Q to from reason.Value h = (h.0, to _ h.1)
holds_along P Q to from reason.Memory h = h
holds_along P Q to from reason.NextFile h = to _ h

first_answers : (P : Occurrence → Type 0) (r : Reason) → IsFirst P r → IsAnswer P r
first_answers P reason.Assignment h = h
first_answers P reason.Addition h = h
first_answers P reason.Range h = h
first_answers P reason.Match h = h
first_answers P reason.Split h = h
first_answers P reason.Passing h = h
first_answers P reason.Value h = h
first_answers P reason.Memory h = tt
first_answers P reason.NextFile h = h

pub answer_along : (P Q : Occurrence → Type 0) → ((o : Occurrence) → P o ↔ Q o) → (r : Reason) → IsFirst P r → IsAnswer Q r
answer_along P Q both r h =
    let to : (o : Occurrence) → P o → Q o = λ o. (both o).0 in
    let from : (o : Occurrence) → Q o → P o = λ o. (both o).1 in
    first_answers Q r (holds_along P Q to from r h.0, λ s less q. h.1 s less (holds_along Q P from to s q))

pub none_along : (P Q : Occurrence → Type 0) → ((o : Occurrence) → P o ↔ Q o) → ((r : Reason) → ¬ Holds P r) → (r : Reason) → ¬ Holds Q r
none_along P Q both none r q =
    let to : (o : Occurrence) → P o → Q o = λ o. (both o).0 in
    let from : (o : Occurrence) → Q o → P o = λ o. (both o).1 in
    none r (holds_along Q P from to r q)

-- ---- roles by marks

no_clash_if : (b : Bool) → (b ≡ true → ⊥) → b ≡ false
no_clash_if true h = absurd (h refl)
no_clash_if false h = refl

no_clash : (list : List Occurrence) → ((r : Reason) → ¬ Holds (Contains list) r) → (r : Reason) (name : GlobalName) →
    clashes r (marks_among list name) (separating name) ≡ false
no_clash list none r name = no_clash_if _ (λ h. none r (clash_means list r name h))

setter_by : (list : List Occurrence) → ((r : Reason) → ¬ Holds (Contains list) r) → (name : GlobalName) →
    has set (marks_among list name) ≡ true → IsSetter (Contains list) name
setter_by list none name h = setter_from list name h (no_clash list none reason.Assignment name)

add_not_value : (list : List Occurrence) → ((r : Reason) → ¬ Holds (Contains list) r) → (name : GlobalName) (t : Touch) →
    Touches (Contains list) t name → (t ≡ Add) ⊎ (t ≡ AddAndLook) → t ≡ Add
add_not_value list none name t h (inl e) = e
add_not_value list none name t h (inr e) = absurd (none reason.Value (name, subst (λ u. Touches (Contains list) u name) e h))

either : (t : Touch) → IsAddition t → (t ≡ Add) ⊎ (t ≡ AddAndLook)
either Look h = absurd h
either Set h = absurd h
either Assign h = absurd h
either Add h = inl refl
either AddAndLook h = inr refl
either Test h = absurd h
either Walk h = absurd h
either Split h = absurd h
either Pass h = absurd h
either Delete h = absurd h

adder_by : (list : List Occurrence) → ((r : Reason) → ¬ Holds (Contains list) r) → (name : GlobalName) →
    has add (marks_among list name) ≡ true → IsAdder (Contains list) name
adder_by list none name h =
    let f = touch_of_mark list name add h in
    let all = additions_from list name h (no_clash list none reason.Addition name) in
    let first : f.0 ≡ Add = add_not_value list none name f.0 f.2 (only_add f.0 f.1) in
    (subst (λ t. Touches (Contains list) t name) first f.2, λ t u. add_not_value list none name t u (either t (all.0 t u)))

not_only : (list : List Occurrence) (name : GlobalName) (t : Touch) → has (class_of t) (marks_among list name) ≡ false →
    ¬ OnlyTouches (Contains list) t name
not_only list name t h only = apart (sym (mark_of_touch list name t only.0) ∙ h)

scalar_by : (list : List Occurrence) → ((r : Reason) → ¬ Holds (Contains list) r) → (n : ℕ) (sets adds : Bool) →
    has set (marks_among list (Scalar n)) ≡ sets → has add (marks_among list (Scalar n)) ≡ adds →
    IsRole (Contains list) (if sets then Setter else (if adds then Adder else Fixed)) (Scalar n)
scalar_by list none n true adds s a = setter_by list none (Scalar n) s
scalar_by list none n false true s a = adder_by list none (Scalar n) a
scalar_by list none n false false s a =
    (not_only list (Scalar n) Add a, λ h. not_only list (Scalar n) Set s h.0, λ h. h.0)

is_other : Class → Bool
is_other set = false
is_other add = false
is_other look = false
is_other other = true

reader_not : (list : List Occurrence) (name : GlobalName) → has other (marks_among list name) ≡ true → ¬ IsReader (Contains list) name
unfolding is_other
reader_not list name h r =
    let f = touch_of_mark list name other h in
    let only : f.0 ≡ Look = r.1.1 f.0 f.2 in
    apart (sym (ap (λ t. is_other (class_of t)) (sym only) ∙ ap is_other f.1))

array_by : (list : List Occurrence) → ((r : Reason) → ¬ Holds (Contains list) r) → (n : ℕ) (sets adds looks others : Bool) →
    has set (marks_among list (Array n)) ≡ sets → has add (marks_among list (Array n)) ≡ adds →
    has look (marks_among list (Array n)) ≡ looks → has other (marks_among list (Array n)) ≡ others →
    IsRole (Contains list) (if sets then Setter else (if adds then Adder else (if looks && not others then Reader else Fixed))) (Array n)
array_by list none n true adds looks others s a l o = setter_by list none (Array n) s
array_by list none n false true looks others s a l o = adder_by list none (Array n) a
array_by list none n false false false others s a l o =
    (not_only list (Array n) Add a, λ h. not_only list (Array n) Set s h.0, λ h. not_only list (Array n) Look l h.1)
array_by list none n false false true true s a l o =
    (not_only list (Array n) Add a, λ h. not_only list (Array n) Set s h.0, reader_not list (Array n) o)
array_by list none n false false true false s a l o =
    let f = touch_of_mark list (Array n) look l in
    let first = subst (λ t. Touches (Contains list) t (Array n)) (only_look f.0 f.1) f.2 in
    (tt, (first, look_alone list (Array n) s a o))

get_or-map_at : {A B : Type 0} (f : A → B) (xs : List A) (n : ℕ) (d : A) → get_or (map f xs) n (f d) ≡ f (get_or xs n d)
get_or-map_at f [] n d = refl
get_or-map_at f (x ∷ xs) zero d = refl
get_or-map_at f (x ∷ xs) (suc n) d = get_or-map_at f xs n d

-- the roles of tables are those of the names
pub roles_by : (list : List Occurrence) (tables : Tables) (Q : Occurrence → Type 0) (roles : Roles) → AreTables list tables →
    ((o : Occurrence) → Contains list o ↔ Q o) → ((r : Reason) → ¬ Holds (Contains list) r) →
    roles.scalars ≡ map scalar_role tables.scalars.items → roles.arrays ≡ map array_role tables.arrays.items → AreRoles Q roles
roles_by list tables Q roles are both none s a (Scalar n) =
    let m = marks_among list (Scalar n) in
    let role : role_of_scalar roles n ≡ scalar_role m =
    ap (λ l. get_or l n Fixed) s ∙ get_or-map_at scalar_role tables.scalars.items n nothing ∙ ap scalar_role (are (Scalar n)) in
    subst (λ r. IsRole Q r (Scalar n)) (sym role)
    (role_along (Contains list) Q (λ o. (both o).0) (λ o. (both o).1) (scalar_role m) (Scalar n) (scalar_by list none n m.sets m.adds refl refl))
roles_by list tables Q roles are both none s a (Array n) =
    let m = marks_among list (Array n) in
    let role : role_of_array roles n ≡ array_role m =
    ap (λ l. get_or l n Fixed) a ∙ get_or-map_at array_role tables.arrays.items n nothing ∙ ap array_role (are (Array n)) in
    subst (λ r. IsRole Q r (Array n)) (sym role)
    (role_along (Contains list) Q (λ o. (both o).0) (λ o. (both o).1) (array_role m) (Array n) (array_by list none n m.sets m.adds m.looks m.others refl refl refl refl))
