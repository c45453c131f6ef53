-- Names and their slots.
use Rattle.std.proofs.Common.{◌≡◌, ◌<◌, ℕ, zero, suc, true, false, List, [], ◌∷◌, length, Option, Some, None, inl, inr, refl, sym, ap, subst, ◌∙◌, arith}
use Rattle.std.specs.Prelude.{is_some, unwrap_or}
use Rattle.std.specs.Option.{option_map}
use Rattle.std.specs.Str.{bytes_eq}
use Rattle.std.proofs.lemmas.Bool.{cases_Bool}
use Rattle.std.proofs.lemmas.Slice.Eq.{bytes_eq-Decides}
use Rattle.pawk_lex.specs.Bytes.{Text}
use Rattle.pawk_code.specs.declared.leaf.Special.{Special}
use Rattle.pawk_code.specs.declared.leaf.Special.TheVariants as special
use Rattle.pawk_resolve.specs.Slots.{place, slot}
use Rattle.pawk_resolve.specs.Scopes.{special_in, specials, special_of}
use Rattle.pawk_resolve_law.specs.Names.{name_at, AreDifferent, special_name}

one_more : (o : Option ℕ) (n : ℕ) → option_map suc o ≡ Some n → (m : ℕ) × (o ≡ Some m) × (n ≡ suc m)
one_more None n h = let no : None ≡ Some n = h in cc
one_more (Some m) n h = (m, refl, let e : Some (suc m) ≡ Some n = h in cc)

-- a place has the name that was looked for
pub place_name : (xs : List Text) (x : Text) (n : ℕ) → place xs x ≡ Some n → (n < length xs) × (name_at xs n ≡ x)
place_name [] x n h = let no : None ≡ Some n = h in cc
place_name (y ∷ ys) x n h =
    let P : ℕ → Type 0 = λ m. (m < length (y ∷ ys)) × (name_at (y ∷ ys) m ≡ x) in
    elim (cases_Bool (bytes_eq y x)) [
      | inl e ↦
          let first : Some zero ≡ Some n = rw e at h in
          let at : zero ≡ n = cc in
          subst P at (omega arith, (bytes_eq-Decides y x).0 e)
      | inr e ↦
          let rest : option_map suc (place ys x) ≡ Some n = rw e at h in
          let found = one_more (place ys x) n rest in
          let inside = place_name ys x found.0 found.1 in
          subst P (sym found.2) (omega (arith, inside.0), inside.1)
    ]

-- the name in a place is found there, where each occurs once
pub place_at : (xs : List Text) (n : ℕ) → AreDifferent xs → n < length xs → place xs (name_at xs n) ≡ Some n
place_at [] n d below = absurd (omega (arith, below))
place_at (x ∷ xs) zero d below = rw ((bytes_eq-Decides x x).1 refl) refl
place_at (x ∷ xs) (suc n) d below =
    let there : place xs (name_at xs n) ≡ Some n = place_at xs n d.1 (omega (arith, below)) in
    elim (cases_Bool (bytes_eq x (name_at xs n))) [
      | inl e ↦
          let missing : place xs (name_at xs n) ≡ None = ap (place xs) (sym ((bytes_eq-Decides x (name_at xs n)).0 e)) ∙ d.0 in
          cc
      | inr e ↦ rw (e, there) refl
    ]

pub slot_at : (xs : List Text) (n : ℕ) → AreDifferent xs → n < length xs → slot xs (name_at xs n) ≡ n
slot_at xs n d below = ap (λ o. unwrap_or o 0) (place_at xs n d below)

-- a text that is among others
found : (o : Option ℕ) → is_some o ≡ true → o ≡ Some (unwrap_or o 0)
found None h = let no : false ≡ true = h in cc
found (Some n) h = refl

pub slot_name : (xs : List Text) (x : Text) → is_some (place xs x) ≡ true → (slot xs x < length xs) × (name_at xs (slot xs x) ≡ x)
slot_name xs x h = place_name xs x (slot xs x) (found (place xs x) h)

-- ---- the variables that the run sets

AreNamed : List (Text × Special) → Type 0
AreNamed [] = Unit {0}
AreNamed (p ∷ ps) = (p.0 ≡ special_name p.1) × AreNamed ps

in_named : (ps : List (Text × Special)) (x : Text) (r : Special) → AreNamed ps → special_in ps x ≡ Some r → x ≡ special_name r
unfolding AreNamed
in_named [] x r n h = let no : None ≡ Some r = h in cc
in_named (p ∷ ps) x r n h = elim (cases_Bool (bytes_eq x p.0)) [
  | inl e ↦
      let this : Some p.1 ≡ Some r = rw e at h in
      let same : p.1 ≡ r = cc in
      (bytes_eq-Decides x p.0).0 e ∙ n.0 ∙ ap special_name same
  | inr e ↦ in_named ps x r n.1 (rw e at h)
]

pub special_is : (x : Text) (r : Special) → special_of x ≡ Some r → x ≡ special_name r
unfolding special_of AreNamed
special_is x r h = in_named specials x r (refl, (refl, (refl, (refl, (refl, (refl, tt)))))) h

pub special_named : (r : Special) → special_of (special_name r) ≡ Some r
unfolding special_of
special_named special.Nr = refl
special_named special.Nf = refl
special_named special.Fnr = refl
special_named special.Filename = refl
special_named special.Rstart = refl
special_named special.Rlength = refl

none_or : (o : Option Special) → ((r : Special) → o ≡ Some r → ⊥) → o ≡ None
none_or None h = refl
none_or (Some r) h = absurd (h r refl)

-- a text in a table in which no such variable is
pub no_special : (xs : List Text) → ((r : Special) → place xs (special_name r) ≡ None) → (x : Text) (n : ℕ) → place xs x ≡ Some n → special_of x ≡ None
no_special xs free x n there = none_or (special_of x) (λ r e.
    let missing : place xs x ≡ None = ap (place xs) (special_is x r e) ∙ free r in
    let no : None ≡ Some n = sym missing ∙ there in
    cc)
