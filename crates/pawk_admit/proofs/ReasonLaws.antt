-- When a reason holds, from what an occurrence alone shows and from the marks of names.
use Rattle.std.proofs.Common.{◌≡◌, ℕ, nat_eq, Bool, true, false, List, Some, None, refl, sym, ap, subst, ◌∙◌, inl, inr, ◌⊎◌}
use Rattle.std.specs.Prelude.{Contains, ◌&&◌, ◌||◌}
use Rattle.std.proofs.lemmas.Bool.{eqb-true, or_cases, or_parts}
use Rattle.pawk_code.specs.FirstSlots.{fs_slot, ofs_slot, ors_slot, subsep_slot}
use Rattle.pawk_admit.specs.declared.occurrence.Touch.{Touch}
use Rattle.pawk_admit.specs.declared.occurrence.Touch.TheVariants.{Look, Set, Assign, Add, AddAndLook, Test, Walk, Split, Pass, Delete}
use Rattle.pawk_admit.specs.declared.occurrence.GlobalName.{GlobalName}
use Rattle.pawk_admit.specs.declared.occurrence.GlobalName.TheVariants.{Scalar, Array}
use Rattle.pawk_admit.specs.declared.occurrence.Occurrence.{Occurrence}
use Rattle.pawk_admit.specs.declared.occurrence.Occurrence.TheVariants as occurrence
use Rattle.pawk_admit.specs.declared.reason.Reason.{Reason}
use Rattle.pawk_admit.specs.declared.reason.Reason.TheVariants as reason
use Rattle.pawk_admit.specs.declared.marks.Tables.{Tables}
use Rattle.pawk_admit.specs.Marks.{marks_among, marks_at, AreTables}
use Rattle.pawk_admit.specs.Admission.{IsSeparator, IsAddition, Touches, IsSetter, IsAssigned, IsAddedBeside, Holds}
use Rattle.pawk_admit.specs.Decisions.{reason_of, separates, clashes}
use Rattle.pawk_admit.proofs.MarkLaws.{Class, set, add, look, other, class_of, has, mark_of_touch, touch_of_mark}

apart : true ≡ false → ⊥
apart h = cc

and_parts : (x y : Bool) → (x && y) ≡ true → (x ≡ true) × (y ≡ true)
and_parts true y h = (refl, h)
and_parts false y h = absurd (apart (sym h))

and_false : (x y : Bool) → (x && y) ≡ false → x ≡ true → y ≡ false
and_false true y h e = h
and_false false y h e = absurd (apart (sym e))

-- ---- names that separate

abbrev pub separating : GlobalName → Bool
separating (Scalar n) = separates n
separating (Array n) = false

pub separator_from : (name : GlobalName) → separating name ≡ true → IsSeparator name
separator_from (Array n) h = absurd (apart (sym h))
separator_from (Scalar n) h = elim (or_cases _ (nat_eq n subsep_slot) h) [
  | inr d ↦ inr (inr (inr (eqb-true n subsep_slot d)))
  | inl rest ↦ elim (or_cases _ (nat_eq n ors_slot) rest) [
    | inr c ↦ inr (inr (inl (eqb-true n ors_slot c)))
    | inl more ↦ elim (or_cases (nat_eq n fs_slot) (nat_eq n ofs_slot) more) [
      | inl a ↦ inl (eqb-true n fs_slot a)
      | inr b ↦ inr (inl (eqb-true n ofs_slot b))
    ]
  ]
]

pub separator_to : (name : GlobalName) → IsSeparator name → separating name ≡ true
separator_to (Array n) h = absurd h
separator_to (Scalar n) (inl a) = ap separates a
separator_to (Scalar n) (inr (inl b)) = ap separates b
separator_to (Scalar n) (inr (inr (inl c))) = ap separates c
separator_to (Scalar n) (inr (inr (inr d))) = ap separates d

-- ---- kinds of what is done

abbrev is_set : Class → Bool
is_set set = true
is_set add = false
is_set look = false
is_set other = false

abbrev is_add : Class → Bool
is_add set = false
is_add add = true
is_add look = false
is_add other = false

abbrev is_look : Class → Bool
is_look set = false
is_look add = false
is_look look = true
is_look other = false

pub only_set : (t : Touch) → class_of t ≡ set → t ≡ Set
only_set Look h = absurd (apart (sym (ap is_set h)))
only_set Set h = refl
only_set Assign h = absurd (apart (sym (ap is_set h)))
only_set Add h = absurd (apart (sym (ap is_set h)))
only_set AddAndLook h = absurd (apart (sym (ap is_set h)))
only_set Test h = absurd (apart (sym (ap is_set h)))
only_set Walk h = absurd (apart (sym (ap is_set h)))
only_set Split h = absurd (apart (sym (ap is_set h)))
only_set Pass h = absurd (apart (sym (ap is_set h)))
only_set Delete h = absurd (apart (sym (ap is_set h)))

pub only_look : (t : Touch) → class_of t ≡ look → t ≡ Look
only_look Look h = refl
only_look Set h = absurd (apart (sym (ap is_look h)))
only_look Assign h = absurd (apart (sym (ap is_look h)))
only_look Add h = absurd (apart (sym (ap is_look h)))
only_look AddAndLook h = absurd (apart (sym (ap is_look h)))
only_look Test h = absurd (apart (sym (ap is_look h)))
only_look Walk h = absurd (apart (sym (ap is_look h)))
only_look Split h = absurd (apart (sym (ap is_look h)))
only_look Pass h = absurd (apart (sym (ap is_look h)))
only_look Delete h = absurd (apart (sym (ap is_look h)))

pub only_add : (t : Touch) → class_of t ≡ add → (t ≡ Add) ⊎ (t ≡ AddAndLook)
only_add Look h = absurd (apart (sym (ap is_add h)))
only_add Set h = absurd (apart (sym (ap is_add h)))
only_add Assign h = absurd (apart (sym (ap is_add h)))
only_add Add h = inl refl
only_add AddAndLook h = inr refl
only_add Test h = absurd (apart (sym (ap is_add h)))
only_add Walk h = absurd (apart (sym (ap is_add h)))
only_add Split h = absurd (apart (sym (ap is_add h)))
only_add Pass h = absurd (apart (sym (ap is_add h)))
only_add Delete h = absurd (apart (sym (ap is_add h)))

pub no_addition : (t : Touch) → is_add (class_of t) ≡ false → ¬ IsAddition t
no_addition Look h i = i
no_addition Set h i = i
no_addition Assign h i = i
no_addition Add h i = apart h
no_addition AddAndLook h i = apart h
no_addition Test h i = i
no_addition Walk h i = i
no_addition Split h i = i
no_addition Pass h i = i
no_addition Delete h i = i

pub addition_of : (t : Touch) → is_add (class_of t) ≡ true → IsAddition t
addition_of Look h = absurd (apart (sym h))
addition_of Set h = absurd (apart (sym h))
addition_of Assign h = absurd (apart (sym h))
addition_of Add h = tt
addition_of AddAndLook h = tt
addition_of Test h = absurd (apart (sym h))
addition_of Walk h = absurd (apart (sym h))
addition_of Split h = absurd (apart (sym h))
addition_of Pass h = absurd (apart (sym h))
addition_of Delete h = absurd (apart (sym h))

-- ---- what the marks of one name show

touch_of_class : (list : List Occurrence) (name : GlobalName) (c : Class) → has c (marks_among list name) ≡ true →
    (k : Class → Bool) → (t : Touch) × (k (class_of t) ≡ k c) × Touches (Contains list) t name
touch_of_class list name c h k = let f = touch_of_mark list name c h in (f.0, ap k f.1, f.2)

-- another kind beside assignments
beside_set : (list : List Occurrence) (name : GlobalName) (c : Class) → is_set c ≡ false → has c (marks_among list name) ≡ true →
    ¬ IsSetter (Contains list) name
beside_set list name c never h s =
    let f = touch_of_class list name c h is_set in
    let only : f.0 ≡ Set = s.0.1 f.0 f.2 in
    apart (ap (λ t. is_set (class_of t)) (sym only) ∙ f.1 ∙ never)

pub assigned_from : (list : List Occurrence) (name : GlobalName) →
    clashes reason.Assignment (marks_among list name) (separating name) ≡ true → IsAssigned (Contains list) name
assigned_from list name h =
    let m = marks_among list name in
    let both = and_parts m.sets (m.adds || m.looks || m.others || separating name) h in
    let f = touch_of_mark list name set both.0 in
    let sets : Touches (Contains list) Set name = subst (λ t. Touches (Contains list) t name) (only_set f.0 f.1) f.2 in
    let never : ¬ IsSetter (Contains list) name = elim (or_cases (m.adds || m.looks || m.others) (separating name) both.1) [
      | inr separated ↦ λ s. s.1 (separator_from name separated)
      | inl rest ↦ elim (or_cases (m.adds || m.looks) m.others rest) [
        | inr others ↦ beside_set list name other refl others
        | inl more ↦ elim (or_cases m.adds m.looks more) [
          | inl adds ↦ beside_set list name add refl adds
          | inr looks ↦ beside_set list name look refl looks
        ]
      ]
    ] in
    inr (inr (sets, never))

beside_add : (list : List Occurrence) (name : GlobalName) (c : Class) → is_add c ≡ false → has c (marks_among list name) ≡ true →
    (t : Touch) × Touches (Contains list) t name × ¬ IsAddition t
beside_add list name c never h =
    let f = touch_of_class list name c h is_add in
    (f.0, f.2, no_addition f.0 (f.1 ∙ never))

pub added_from : (list : List Occurrence) (name : GlobalName) →
    clashes reason.Addition (marks_among list name) (separating name) ≡ true → IsAddedBeside (Contains list) name
added_from list name h =
    let m = marks_among list name in
    let both = and_parts m.adds (m.sets || m.looks || m.others || separating name) h in
    let f = touch_of_mark list name add both.0 in
    let adds : Touches (Contains list) Add name ⊎ Touches (Contains list) AddAndLook name = elim (only_add f.0 f.1) [
      | inl a ↦ inl (subst (λ t. Touches (Contains list) t name) a f.2)
      | inr b ↦ inr (subst (λ t. Touches (Contains list) t name) b f.2)
    ] in (
      adds,
      elim (or_cases (m.sets || m.looks || m.others) (separating name) both.1) [
        | inr separated ↦ inl (separator_from name separated)
        | inl rest ↦ elim (or_cases (m.sets || m.looks) m.others rest) [
          | inr others ↦ inr (beside_add list name other refl others)
          | inl more ↦ elim (or_cases m.sets m.looks more) [
            | inl sets ↦ inr (beside_add list name set refl sets)
            | inr looks ↦ inr (beside_add list name look refl looks)
          ]
        ]
      ],
    )

-- the mark that would be there is not
no_touch_of_class : (list : List Occurrence) (name : GlobalName) (t : Touch) (c : Class) → class_of t ≡ c → has c (marks_among list name) ≡ false →
    Touches (Contains list) t name → ⊥
no_touch_of_class list name t c e never h = apart (sym (subst (λ k. has k (marks_among list name) ≡ true) e (mark_of_touch list name t h)) ∙ never)

-- where a name has marks of one kind alone, what is done with it is of that kind
set_alone : (list : List Occurrence) (name : GlobalName) → has add (marks_among list name) ≡ false → has look (marks_among list name) ≡ false →
    has other (marks_among list name) ≡ false → (t : Touch) → Touches (Contains list) t name → t ≡ Set
set_alone list name a l o Look h = absurd (no_touch_of_class list name Look look refl l h)
set_alone list name a l o Set h = refl
set_alone list name a l o Assign h = absurd (no_touch_of_class list name Assign other refl o h)
set_alone list name a l o Add h = absurd (no_touch_of_class list name Add add refl a h)
set_alone list name a l o AddAndLook h = absurd (no_touch_of_class list name AddAndLook add refl a h)
set_alone list name a l o Test h = absurd (no_touch_of_class list name Test other refl o h)
set_alone list name a l o Walk h = absurd (no_touch_of_class list name Walk other refl o h)
set_alone list name a l o Split h = absurd (no_touch_of_class list name Split other refl o h)
set_alone list name a l o Pass h = absurd (no_touch_of_class list name Pass other refl o h)
set_alone list name a l o Delete h = absurd (no_touch_of_class list name Delete other refl o h)

pub look_alone : (list : List Occurrence) (name : GlobalName) → has set (marks_among list name) ≡ false → has add (marks_among list name) ≡ false →
    has other (marks_among list name) ≡ false → (t : Touch) → Touches (Contains list) t name → t ≡ Look
look_alone list name s a o Look h = refl
look_alone list name s a o Set h = absurd (no_touch_of_class list name Set set refl s h)
look_alone list name s a o Assign h = absurd (no_touch_of_class list name Assign other refl o h)
look_alone list name s a o Add h = absurd (no_touch_of_class list name Add add refl a h)
look_alone list name s a o AddAndLook h = absurd (no_touch_of_class list name AddAndLook add refl a h)
look_alone list name s a o Test h = absurd (no_touch_of_class list name Test other refl o h)
look_alone list name s a o Walk h = absurd (no_touch_of_class list name Walk other refl o h)
look_alone list name s a o Split h = absurd (no_touch_of_class list name Split other refl o h)
look_alone list name s a o Pass h = absurd (no_touch_of_class list name Pass other refl o h)
look_alone list name s a o Delete h = absurd (no_touch_of_class list name Delete other refl o h)

add_alone : (list : List Occurrence) (name : GlobalName) → has set (marks_among list name) ≡ false → has look (marks_among list name) ≡ false →
    has other (marks_among list name) ≡ false → (t : Touch) → Touches (Contains list) t name → IsAddition t
add_alone list name s l o Look h = absurd (no_touch_of_class list name Look look refl l h)
add_alone list name s l o Set h = absurd (no_touch_of_class list name Set set refl s h)
add_alone list name s l o Assign h = absurd (no_touch_of_class list name Assign other refl o h)
add_alone list name s l o Add h = tt
add_alone list name s l o AddAndLook h = tt
add_alone list name s l o Test h = absurd (no_touch_of_class list name Test other refl o h)
add_alone list name s l o Walk h = absurd (no_touch_of_class list name Walk other refl o h)
add_alone list name s l o Split h = absurd (no_touch_of_class list name Split other refl o h)
add_alone list name s l o Pass h = absurd (no_touch_of_class list name Pass other refl o h)
add_alone list name s l o Delete h = absurd (no_touch_of_class list name Delete other refl o h)

-- a name that is set, with no other mark, is a setter
pub setter_from : (list : List Occurrence) (name : GlobalName) → has set (marks_among list name) ≡ true →
    clashes reason.Assignment (marks_among list name) (separating name) ≡ false → IsSetter (Contains list) name
setter_from list name sets never =
    let m = marks_among list name in
    let none = and_false m.sets (m.adds || m.looks || m.others || separating name) never sets in
    let a = or_parts (m.adds || m.looks || m.others) (separating name) none in
    let b = or_parts (m.adds || m.looks) m.others a.0 in
    let c = or_parts m.adds m.looks b.0 in
    let f = touch_of_mark list name set sets in (
      (subst (λ t. Touches (Contains list) t name) (only_set f.0 f.1) f.2, set_alone list name c.0 c.1 b.1),
      λ s. apart (sym (separator_to name s) ∙ a.1),
    )

pub assigned_no : (list : List Occurrence) (name : GlobalName) → Touches (Contains list) Set name → ¬ IsSetter (Contains list) name →
    clashes reason.Assignment (marks_among list name) (separating name) ≡ false → ⊥
assigned_no list name h never e = never (setter_from list name (mark_of_touch list name Set h) e)

-- a name that is added to, with no other mark
pub additions_from : (list : List Occurrence) (name : GlobalName) → has add (marks_among list name) ≡ true →
    clashes reason.Addition (marks_among list name) (separating name) ≡ false →
    ((t : Touch) → Touches (Contains list) t name → IsAddition t) × ¬ IsSeparator name
additions_from list name adds never =
    let m = marks_among list name in
    let none = and_false m.adds (m.sets || m.looks || m.others || separating name) never adds in
    let a = or_parts (m.sets || m.looks || m.others) (separating name) none in
    let b = or_parts (m.sets || m.looks) m.others a.0 in
    let c = or_parts m.sets m.looks b.0 in
    (add_alone list name c.0 c.1 b.1, λ s. apart (sym (separator_to name s) ∙ a.1))

pub added_no : (list : List Occurrence) (name : GlobalName) → IsAddedBeside (Contains list) name →
    clashes reason.Addition (marks_among list name) (separating name) ≡ false → ⊥
added_no list name h e =
    let adds : has add (marks_among list name) ≡ true = elim h.0 [
      | inl a ↦ mark_of_touch list name Add a
      | inr b ↦ mark_of_touch list name AddAndLook b
    ] in
    let all = additions_from list name adds e in
    elim h.1 [
      | inl s ↦ all.1 s
      | inr o ↦ o.2 (all.0 o.0 o.1)
    ]

-- ---- reasons

pub clash_means : (list : List Occurrence) (r : Reason) (name : GlobalName) → clashes r (marks_among list name) (separating name) ≡ true →
    Holds (Contains list) r
clash_means list reason.Assignment name h = (name, assigned_from list name h)
clash_means list reason.Addition name h = (name, added_from list name h)
clash_means list reason.Range name h = absurd (apart (sym h))
clash_means list reason.Match name h = absurd (apart (sym h))
clash_means list reason.Split name h = absurd (apart (sym h))
clash_means list reason.Passing name h = absurd (apart (sym h))
clash_means list reason.Value name h = absurd (apart (sym h))
clash_means list reason.Memory name h = absurd (apart (sym h))
clash_means list reason.NextFile name h = absurd (apart (sym h))

missing : (r : Reason) → None ≡ Some r → ⊥
missing r h = cc

same_reason : (a r : Reason) → Some a ≡ Some r → a ≡ r
same_reason a r h = cc

pub shown_means : (list : List Occurrence) (r : Reason) (o : Occurrence) → Contains list o → reason_of o ≡ Some r → Holds (Contains list) r
shown_means list r (occurrence.Touch Look name) h e = absurd (missing r e)
shown_means list r (occurrence.Touch Set name) h e = absurd (missing r e)
shown_means list r (occurrence.Touch Assign name) h e = subst (Holds (Contains list)) (same_reason reason.Assignment r e) (name, inl h)
shown_means list r (occurrence.Touch Add name) h e = absurd (missing r e)
shown_means list r (occurrence.Touch AddAndLook name) h e = subst (Holds (Contains list)) (same_reason reason.Value r e) (name, h)
shown_means list r (occurrence.Touch Test name) h e = absurd (missing r e)
shown_means list r (occurrence.Touch Walk name) h e = absurd (missing r e)
shown_means list r (occurrence.Touch Split name) h e = subst (Holds (Contains list)) (same_reason reason.Split r e) (name, h)
shown_means list r (occurrence.Touch Pass name) h e = subst (Holds (Contains list)) (same_reason reason.Passing r e) (name, h)
shown_means list r (occurrence.Touch Delete name) h e = subst (Holds (Contains list)) (same_reason reason.Assignment r e) (name, inr (inl h))
shown_means list r (occurrence.Call f) h e = absurd (missing r e)
shown_means list r occurrence.Match h e = subst (Holds (Contains list)) (same_reason reason.Match r e) h
shown_means list r occurrence.Range h e = subst (Holds (Contains list)) (same_reason reason.Range r e) h
shown_means list r occurrence.NextFile h e = subst (Holds (Contains list)) (same_reason reason.NextFile r e) h

-- no occurrence alone shows it, nor do the marks of any name
pub none_means : (list : List Occurrence) (r : Reason) → ((o : Occurrence) → Contains list o → reason_of o ≡ Some r → ⊥) →
    ((name : GlobalName) → clashes r (marks_among list name) (separating name) ≡ false) → ¬ Holds (Contains list) r
none_means list reason.Assignment never clash h = elim h.1 [
  | inl a ↦ never (occurrence.Touch Assign h.0) a refl
  | inr rest ↦ elim rest [
    | inl d ↦ never (occurrence.Touch Delete h.0) d refl
    | inr s ↦ assigned_no list h.0 s.0 s.1 (clash h.0)
  ]
]
none_means list reason.Addition never clash h = added_no list h.0 h.1 (clash h.0)
none_means list reason.Range never clash h = never occurrence.Range h refl
none_means list reason.Match never clash h = never occurrence.Match h refl
none_means list reason.Split never clash h = never (occurrence.Touch Split h.0) h.1 refl
none_means list reason.Passing never clash h = never (occurrence.Touch Pass h.0) h.1 refl
none_means list reason.Value never clash h = never (occurrence.Touch AddAndLook h.0) h.1 refl
none_means list reason.Memory never clash h = h
none_means list reason.NextFile never clash h = never occurrence.NextFile h refl

-- ---- the same by tables

pub scalar_means : (list : List Occurrence) (tables : Tables) → AreTables list tables → (r : Reason) (n : ℕ) →
    clashes r (marks_at tables.scalars.items n) (separates n) ≡ true → Holds (Contains list) r
scalar_means list tables are r n h =
    clash_means list r (Scalar n) (subst (λ m. clashes r m (separates n) ≡ true) (are (Scalar n)) h)

pub array_means : (list : List Occurrence) (tables : Tables) → AreTables list tables → (r : Reason) (n : ℕ) →
    clashes r (marks_at tables.arrays.items n) false ≡ true → Holds (Contains list) r
array_means list tables are r n h =
    clash_means list r (Array n) (subst (λ m. clashes r m false ≡ true) (are (Array n)) h)

no_clash : (list : List Occurrence) (tables : Tables) → AreTables list tables → (r : Reason) →
    ((n : ℕ) → clashes r (marks_at tables.scalars.items n) (separates n) ≡ false) →
    ((n : ℕ) → clashes r (marks_at tables.arrays.items n) false ≡ false) →
    (name : GlobalName) → clashes r (marks_among list name) (separating name) ≡ false
no_clash list tables are r s a (Scalar n) = subst (λ m. clashes r m (separates n) ≡ false) (are (Scalar n)) (s n)
no_clash list tables are r s a (Array n) = subst (λ m. clashes r m false ≡ false) (are (Array n)) (a n)

pub tables_no : (list : List Occurrence) (tables : Tables) → AreTables list tables → (r : Reason) →
    ((o : Occurrence) → Contains list o → reason_of o ≡ Some r → ⊥) →
    ((n : ℕ) → clashes r (marks_at tables.scalars.items n) (separates n) ≡ false) →
    ((n : ℕ) → clashes r (marks_at tables.arrays.items n) false ≡ false) → ¬ Holds (Contains list) r
tables_no list tables are r never s a = none_means list r never (no_clash list tables are r s a)
