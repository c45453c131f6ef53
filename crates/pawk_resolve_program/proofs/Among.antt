-- Names that are parameters, and names that are not.
use Rattle.std.proofs.Common.{◌≡◌, ℕ, Bool, true, false, List, [], ◌∷◌, ◌++◌, Bor, Option, Some, None, inl, inr, refl, sym, ◌∙◌, append-nil}
use Rattle.std.specs.Prelude.{if◌then◌else◌, is_some, filter, not, ◌||◌, suc}
use Rattle.std.specs.Option.{option_map}
use Rattle.std.specs.Str.{bytes_eq}
use Rattle.std.proofs.lemmas.List.{map-append}
use Rattle.std.proofs.lemmas.Bool.{cases_Bool}
use Rattle.std.proofs.lemmas.Slice.Eq.{bytes_eq-Decides}
use Rattle.pawk_lex.specs.Bytes.{Text}
use Rattle.pawk_lex.specs.Vocabulary.{is_among}
use Rattle.pawk_resolve.specs.Slots.{place}
use Rattle.pawk_resolve.specs.Tables.{texts}

either_way : (x y : Text) → bytes_eq x y ≡ bytes_eq y x
either_way x y = elim (cases_Bool (bytes_eq x y)) [
  | inl e ↦ e ∙ sym ((bytes_eq-Decides y x).1 (sym ((bytes_eq-Decides x y).0 e)))
  | inr e ↦ elim (cases_Bool (bytes_eq y x)) [
    | inl f ↦ (bytes_eq-Decides x y).1 (sym ((bytes_eq-Decides y x).0 f)) ∙ sym f
    | inr f ↦ e ∙ sym f
  ]
]

found_or : (b : Bool) (o : Option ℕ) → (b || is_some o) ≡ is_some (if b then Some 0 else option_map suc o)
found_or true o = refl
found_or false None = refl
found_or false (Some n) = refl

among_place : (ps : List Text) (x : Text) → is_among ps x ≡ is_some (place ps x)
among_place [] x = refl
among_place (p ∷ ps) x = rw (either_way x p, among_place ps x) (found_or (bytes_eq p x) (place ps x))

pub kept : (ps : List Text) (x : Text) (xs : List Text) (old new : List (Bor Text)) (name : Bor Text) →
    xs ≡ x ∷ [] → is_some (place ps x) ≡ false → new ≡ old ++ name ∷ [] → name.now ≡ x →
    texts new ≡ texts old ++ filter (λ y. not (is_among ps y)) xs
kept ps x xs old new name one absent more text =
    let free : is_among ps x ≡ false = among_place ps x ∙ absent in
    rw (one, free, more, ← text) (map-append (λ y. y.now) old (name ∷ []))

pub left_out : (ps : List Text) (x : Text) (xs old : List Text) → xs ≡ x ∷ [] → is_some (place ps x) ≡ true →
    old ≡ old ++ filter (λ y. not (is_among ps y)) xs
left_out ps x xs old one there =
    let taken : is_among ps x ≡ true = among_place ps x ∙ there in
    rw (one, taken) (sym (append-nil old))
