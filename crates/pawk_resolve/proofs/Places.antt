-- The places of texts among texts with one more at the end.
use Rattle.std.proofs.Common.{◌≡◌, ℕ, Bool, true, false, cond, List, [], ◌∷◌, ◌++◌, length, Option, Some, None, Bor, refl, inl, inr, ◌∙◌, sym}
use Rattle.std.specs.Prelude.{if◌then◌else◌, is_some, suc}
use Rattle.std.specs.Option.{option_map}
use Rattle.std.specs.Str.{bytes_eq}
use Rattle.std.proofs.lemmas.Bool.{cases_Bool}
use Rattle.std.proofs.lemmas.List.{map-append, length-map}
use Rattle.std.specs.BTreeMap.{BTreeMap}
use Rattle.std.proofs.lemmas.Slice.Eq.{bytes_eq-Decides}
use Rattle.pawk_lex.specs.Bytes.{Text}
use Rattle.pawk_resolve.specs.Slots.{place}
use Rattle.pawk_resolve.specs.Tables.{found, texts}

at_end : (b : Bool) (n : ℕ) → (if b then Some n else None) ≡ cond b (Some n) None
at_end true n = refl
at_end false n = refl

further : (b : Bool) (n : ℕ) (o : _) → option_map suc (cond b (Some n) o) ≡ cond b (Some (suc n)) (option_map suc o)
further true n o = refl
further false n o = refl

unmapped : (o : Option ℕ) → is_some (option_map suc o) ≡ false → is_some o ≡ false
unmapped None h = refl
unmapped (Some n) h = let no : true ≡ false = h in cc

mapped : (o : Option ℕ) → is_some (option_map suc o) ≡ true → is_some o ≡ true
mapped None h = let no : false ≡ true = h in cc
mapped (Some n) h = refl

absorbed : (b : Bool) (o p : Option ℕ) → (b ≡ false → o ≡ p) → (if b then Some 0 else o) ≡ (if b then Some 0 else p)
absorbed true o p h = refl
absorbed false o p h = h refl

-- a text at the end that is at the front
again : (ys : List Text) (z x : Text) → bytes_eq z x ≡ false → place (ys ++ z ∷ []) x ≡ place ys x
again [] z x h = rw h refl
again (y ∷ ys) z x h = rw (again ys z x h) refl

differs : (z y x : Text) → bytes_eq z x ≡ true → bytes_eq z y ≡ false → bytes_eq y x ≡ false
differs z y x f e = elim (cases_Bool (bytes_eq y x)) [
  | inl g ↦
      let here : z ≡ x = (bytes_eq-Decides z x).0 f in
      let there : y ≡ x = (bytes_eq-Decides y x).0 g in
      let same : bytes_eq z y ≡ true = (bytes_eq-Decides z y).1 (here ∙ sym there) in
      let no : true ≡ false = sym same ∙ e in cc
  | inr g ↦ g
]

settled : (b d : Bool) (n : ℕ) (o : _) → (b ≡ true → d ≡ false) →
    (if b then Some 0 else cond d (Some n) o) ≡ cond d (Some n) (if b then Some 0 else o)
settled true true n o h = let no : true ≡ false = h refl in cc
settled true false n o h = refl
settled false d n o h = refl

pub texts-append : (ys : List (Bor Text)) (y : Bor Text) → texts (ys ++ y ∷ []) ≡ texts ys ++ y.now ∷ []
texts-append ys y = map-append (λ x. x.now) ys (y ∷ [])

-- one that is new has the place at the end
pub place-new : (ys : List Text) (y x : Text) → is_some (place ys y) ≡ false →
    place (ys ++ y ∷ []) x ≡ cond (bytes_eq y x) (Some (length ys)) (place ys x)
place-new [] y x h = at_end (bytes_eq y x) 0
place-new (z ∷ ys) y x h = elim (cases_Bool (bytes_eq z y)) [
  | inl e ↦ let no : true ≡ false = rw e at h in cc
  | inr e ↦
      let absent : is_some (option_map suc (place ys y)) ≡ false = rw e at h in
      let inner : is_some (place ys y) ≡ false = unmapped (place ys y) absent in
      rw (place-new ys y x inner, further (bytes_eq y x) (length ys) (place ys x))
      (settled (bytes_eq z x) (bytes_eq y x) (suc (length ys)) (option_map suc (place ys x)) (λ f. differs z y x f e))
]

-- one that is there changes nothing
pub place-old : (ys : List Text) (y x : Text) → is_some (place ys y) ≡ true → place (ys ++ y ∷ []) x ≡ place ys x
place-old [] y x h = let no : false ≡ true = h in cc
place-old (z ∷ ys) y x h = elim (cases_Bool (bytes_eq z y)) [
  | inl e ↦ absorbed (bytes_eq z x) _ _ (λ f. rw (again ys y x (rw ((bytes_eq-Decides z y).0 e) at f)) refl)
  | inr e ↦
      let there : is_some (option_map suc (place ys y)) ≡ true = rw e at h in
      rw (place-old ys y x (mapped (place ys y) there)) refl
]

length-texts : (ys : List (Bor Text)) → length (texts ys) ≡ length ys
length-texts ys = length-map ys (λ x. x.now)

-- a map that has the places of texts, of which one comes again at the end, or does not
pub again_numbered : (r : Bool) (ys zs : List (Bor Text)) (name : Bor Text) (m : BTreeMap (Bor Text) ℕ) →
    ((x : Text) → found m x ≡ place (texts ys) x) → is_some (found m name.now) ≡ true →
    zs ≡ (if r then ys ++ name ∷ [] else ys) → (x : Text) → found m x ≡ place (texts zs) x
again_numbered true ys zs name m h s e x =
    let there : is_some (place (texts ys) name.now) ≡ true = rw (h name.now) at s in
    rw (e, texts-append ys name, place-old (texts ys) name.now x there) (h x)
again_numbered false ys zs name m h s e x = rw e (h x)

-- a map that has the places of texts, with that of one more
pub more_numbered : (ys zs : List (Bor Text)) (name : Bor Text) (m n : BTreeMap (Bor Text) ℕ) →
    ((x : Text) → found m x ≡ place (texts ys) x) → is_some (found m name.now) ≡ false → zs ≡ ys ++ name ∷ [] →
    ((x : Text) → found n x ≡ cond (bytes_eq name.now x) (Some (length ys)) (found m x)) →
    (x : Text) → found n x ≡ place (texts zs) x
more_numbered ys zs name m n h s e u x =
    let absent : is_some (place (texts ys) name.now) ≡ false = rw (h name.now) at s in
    rw (e, texts-append ys name, place-new (texts ys) name.now x absent, length-texts ys, ← h x) (u x)
