-- What tables of names hold.
use Rattle.std.proofs.Common.{◌≡◌, ℕ, suc, Bool, true, false, ◌||◌, List, [], ◌∷◌, ◌++◌, Option, Some, None, refl, sym, ap, subst, ◌∙◌, ◌⊎◌, inl, inr}
use Rattle.std.specs.Prelude.{if◌then◌else◌, is_some, filter}
use Rattle.std.specs.Option.{option_map}
use Rattle.std.specs.Str.{bytes_eq}
use Rattle.std.proofs.lemmas.Bool.{cases_Bool}
use Rattle.std.proofs.lemmas.Slice.Eq.{bytes_eq-Decides}
use Rattle.pawk_lex.specs.Bytes.{Text}
use Rattle.pawk_lex.specs.Vocabulary.{is_among}
use Rattle.pawk_resolve.specs.Slots.{place, with_text, with_texts}
use Rattle.pawk_resolve_law.specs.Names.{AreDifferent}

-- a text is among others
abbrev pub In : List Text → Text → Type 0
In [] x = ⊥
In (y ∷ ys) x = (y ≡ x) ⊎ In ys x

some_suc : (o : Option ℕ) → is_some (option_map suc o) ≡ is_some o
some_suc None = refl
some_suc (Some n) = refl

pub in_place : (xs : List Text) (x : Text) → In xs x → is_some (place xs x) ≡ true
in_place [] x h = absurd h
in_place (y ∷ ys) x h = elim (cases_Bool (bytes_eq y x)) [
  | inl e ↦ rw e refl
  | inr e ↦ elim h [
    | inl f ↦ let yes : bytes_eq y x ≡ true = (bytes_eq-Decides y x).1 f in let no : false ≡ true = sym e ∙ yes in cc
    | inr f ↦ rw e (some_suc (place ys x) ∙ in_place ys x f)
  ]
]

pub place_in : (xs : List Text) (x : Text) → is_some (place xs x) ≡ true → In xs x
place_in [] x h = let no : false ≡ true = h in cc
place_in (y ∷ ys) x h = elim (cases_Bool (bytes_eq y x)) [
  | inl e ↦ inl ((bytes_eq-Decides y x).0 e)
  | inr e ↦
      let rest : is_some (option_map suc (place ys x)) ≡ true = rw e at h in
      inr (place_in ys x (sym (some_suc (place ys x)) ∙ rest))
]

none_of : (o : Option ℕ) → (is_some o ≡ true → ⊥) → o ≡ None
none_of None h = refl
none_of (Some n) h = absurd (h refl)

pub absent : (xs : List Text) (x : Text) → (In xs x → ⊥) → place xs x ≡ None
absent xs x h = none_of (place xs x) (λ e. h (place_in xs x e))

pub not_in : (xs : List Text) (x : Text) → place xs x ≡ None → In xs x → ⊥
not_in xs x e h =
    let some : is_some (place xs x) ≡ true = in_place xs x h in
    let no : false ≡ true = sym (ap is_some e) ∙ some in
    cc

-- ---- lists

pub in_front : (xs ys : List Text) (x : Text) → In xs x → In (xs ++ ys) x
in_front [] ys x h = absurd h
in_front (y ∷ xs) ys x h = elim h [ inl e ↦ inl e | inr f ↦ inr (in_front xs ys x f) ]

pub in_back : (xs ys : List Text) (x : Text) → In ys x → In (xs ++ ys) x
in_back [] ys x h = h
in_back (y ∷ xs) ys x h = inr (in_back xs ys x h)

pub in_either : (xs ys : List Text) (x : Text) → In (xs ++ ys) x → In xs x ⊎ In ys x
in_either [] ys x h = inr h
in_either (y ∷ xs) ys x h = elim h [
  | inl e ↦ inl (inl e)
  | inr f ↦ elim (in_either xs ys x f) [ inl g ↦ inl (inr g) | inr g ↦ inr g ]
]

pub in_filter : (f : Text → Bool) (xs : List Text) (x : Text) → In xs x → f x ≡ true → In (filter f xs) x
in_filter f [] x h e = absurd h
in_filter f (y ∷ xs) x h e = elim (cases_Bool (f y)) [
  | inl g ↦ rw g (elim h [ inl i ↦ inl i | inr i ↦ inr (in_filter f xs x i e) ])
  | inr g ↦ rw g (elim h [
    | inl i ↦ let no : false ≡ true = sym g ∙ ap f i ∙ e in cc
    | inr i ↦ in_filter f xs x i e
  ])
]

pub filter_in : (f : Text → Bool) (xs : List Text) (x : Text) → In (filter f xs) x → In xs x × (f x ≡ true)
filter_in f [] x h = absurd h
filter_in f (y ∷ xs) x h = elim (cases_Bool (f y)) [
  | inl g ↦
      let there : In (y ∷ filter f xs) x = rw g at h in
      elim there [
        | inl i ↦ (inl i, sym (ap f i) ∙ g)
        | inr i ↦ let rest = filter_in f xs x i in (inr rest.0, rest.1)
      ]
  | inr g ↦
      let there : In (filter f xs) x = rw g at h in
      let rest = filter_in f xs x there in
      (inr rest.0, rest.1)
]

-- ---- tables

in_one_more : (ys : List Text) (z x : Text) → In ys x → In (with_text ys z) x
in_one_more ys z x h = elim (cases_Bool (is_some (place ys z))) [ inl e ↦ rw e h | inr e ↦ rw e (in_front ys (z ∷ []) x h) ]

in_this : (ys : List Text) (z : Text) → In (with_text ys z) z
in_this ys z = elim (cases_Bool (is_some (place ys z))) [
  | inl e ↦ rw e (place_in ys z e)
  | inr e ↦ rw e (in_back ys (z ∷ []) z (inl refl))
]

pub in_old : (ys zs : List Text) (x : Text) → In ys x → In (with_texts ys zs) x
in_old ys [] x h = h
in_old ys (z ∷ zs) x h = in_old (with_text ys z) zs x (in_one_more ys z x h)

pub in_new : (ys zs : List Text) (x : Text) → In zs x → In (with_texts ys zs) x
in_new ys [] x h = absurd h
in_new ys (z ∷ zs) x h = elim h [
  | inl e ↦ in_old (with_text ys z) zs x (let P : Text → Type 0 = λ y. In (with_text ys z) y in subst P e (in_this ys z))
  | inr f ↦ in_new (with_text ys z) zs x f
]

one_of_more : (ys : List Text) (z x : Text) → In (with_text ys z) x → In ys x ⊎ (z ≡ x)
one_of_more ys z x h = elim (cases_Bool (is_some (place ys z))) [
  | inl e ↦ let there : In ys x = rw e at h in inl there
  | inr e ↦
      let there : In (ys ++ z ∷ []) x = rw e at h in
      elim (in_either ys (z ∷ []) x there) [ inl f ↦ inl f | inr f ↦ elim f [ inl g ↦ inr g | inr g ↦ absurd g ] ]
]

pub in_some : (ys zs : List Text) (x : Text) → In (with_texts ys zs) x → In ys x ⊎ In zs x
in_some ys [] x h = inl h
in_some ys (z ∷ zs) x h = elim (in_some (with_text ys z) zs x h) [
  | inl f ↦ elim (one_of_more ys z x f) [ inl g ↦ inl g | inr g ↦ inr (inl g) ]
  | inr f ↦ inr (inr f)
]

different_after : (ys : List Text) (z : Text) → AreDifferent ys → (In ys z → ⊥) → AreDifferent (ys ++ z ∷ [])
different_after [] z d h = (refl, tt)
different_after (y ∷ ys) z d h = (
  absent (ys ++ z ∷ []) y (λ i. elim (in_either ys (z ∷ []) y i) [
    | inl f ↦ not_in ys y d.0 f
    | inr f ↦ elim f [ inl e ↦ h (inl (sym e)) | inr g ↦ absurd g ]
  ]),
  different_after ys z d.1 (λ i. h (inr i)),
)

one_more_different : (ys : List Text) (z : Text) → AreDifferent ys → AreDifferent (with_text ys z)
one_more_different ys z d = elim (cases_Bool (is_some (place ys z))) [
  | inl e ↦ rw e d
  | inr e ↦ rw e (different_after ys z d (λ i. let yes : is_some (place ys z) ≡ true = in_place ys z i in let no : false ≡ true = sym e ∙ yes in cc))
]

pub with_different : (ys zs : List Text) → AreDifferent ys → AreDifferent (with_texts ys zs)
with_different ys [] d = d
with_different ys (z ∷ zs) d = with_different (with_text ys z) zs (one_more_different ys z d)

-- ---- the other test

either_way : (x y : Text) → bytes_eq x y ≡ bytes_eq y x
either_way x y = elim (cases_Bool (bytes_eq x y)) [
  | inl e ↦ e ∙ sym ((bytes_eq-Decides y x).1 (sym ((bytes_eq-Decides x y).0 e)))
  | inr e ↦ elim (cases_Bool (bytes_eq y x)) [
    | inl f ↦ (bytes_eq-Decides x y).1 (sym ((bytes_eq-Decides y x).0 f)) ∙ sym f
    | inr f ↦ e ∙ sym f
  ]
]

found_or : (d : Bool) (o : Option ℕ) → (d || is_some o) ≡ is_some (if d then Some 0 else option_map suc o)
found_or true o = refl
found_or false None = refl
found_or false (Some n) = refl

pub among_is : (ps : List Text) (x : Text) → is_among ps x ≡ is_some (place ps x)
among_is [] x = refl
among_is (p ∷ ps) x = rw (either_way x p, among_is ps x) (found_or (bytes_eq p x) (place ps x))
