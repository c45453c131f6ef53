-- Elements in the order of their keys.
use Rattle.std.proofs.Common.{◌≡◌, ℕ, zero, suc, ◌+◌, ◌<◌, Bool, true, false, cond, List, [], ◌∷◌, ◌++◌, length, map, get_or, take, Some, None, refl, sym, ◌∙◌, ap, arith}
use Rattle.std.specs.Prelude.{◌&&◌}
use Rattle.std.specs.Ordering.{is_lt, is_eq, eq_by_cmp, ordering_reverse}
use Rattle.std.specs.declared.cmp.Ordering.{Ordering}
use Rattle.std.specs.declared.cmp.Ordering.TheVariants.{Less, Equal, Greater}
use Rattle.std.specs.Cmp.Lexicographic.{texts_ties}
use Rattle.std.specs.FinMap.Entries.{below_all}
use Rattle.std.proofs.lemmas.List.{length-map, get_or-map, map-append, take_more}
use Rattle.std.proofs.lemmas.Slice.Eq.{bytes_eq-Decides}
use Rattle.pawk_value.specs.Value.{Val, lent_value}
use Rattle.pawk_value.specs.declared.values.ValueRef.{ValueRef}
use Rattle.pawk_array.specs.declared.array.Element.{Element}
use Rattle.pawk_array.specs.declared.headed.Headed.{Headed}
use Rattle.pawk_array.specs.Elements.{element_of}
use Rattle.pawk_array.specs.Entries.{Entries, Rise, order, found, keys}
use Rattle.pawk_keyed_map.proofs.EntriesLemmas.{total}

first : (a b : Bool) → (a && b) ≡ true → a ≡ true
first true b e = refl
first false b e = cc

second : (a b : Bool) → (a && b) ≡ true → b ≡ true
second true b e = e
second false b e = cc

reversed : (o : Ordering) → is_lt o ≡ true → is_eq (ordering_reverse o) ≡ false
reversed Less e = refl
reversed Equal e = cc
reversed Greater e = refl

-- a key that is above another is not equal to it
apart : (x k : List ℕ) → is_lt (order x k) ≡ true → eq_by_cmp order k x ≡ false
apart x k h = ap is_eq (total.antisymm k x) ∙ reversed (order x k) h

below_at : (x : List ℕ) (es : Entries) (i : ℕ) (d : List ℕ × Val) → below_all order x es ≡ true → i < length es → is_lt (order x (get_or es i d).0) ≡ true
below_at x [] i d h g = absurd (omega (arith, g))
below_at x (e ∷ es) zero d h g = first (is_lt (order x e.0)) (below_all order x es) h
below_at x (e ∷ es) (suc i) d h g = below_at x es i d (second (is_lt (order x e.0)) (below_all order x es) h) (omega (arith, g))

-- a key has what is kept beside it
found_at : (es : Entries) (i : ℕ) (d : List ℕ × Val) → Rise es → i < length es → found (get_or es i d).0 es ≡ Some (get_or es i d).1
found_at [] i d h g = absurd (omega (arith, g))
found_at (e ∷ es) zero d h g = ap (λ b. cond b (Some e.1) (found e.0 es)) (sym (texts_ties e.0 e.0) ∙ (bytes_eq-Decides e.0 e.0).1 refl)
found_at (e ∷ es) (suc i) d h g =
    let inside : i < length es = omega (arith, g) in
    let below = below_at e.0 es i d (first (below_all order e.0 es) _ h) inside in
    ap (λ b. cond b (Some e.1) (found (get_or es i d).0 es)) (apart e.0 (get_or es i d).0 below)
    ∙ found_at es i d (second (below_all order e.0 es) _ h) inside

none : List ℕ × Val
none = ([], Rattle.pawk_value.specs.Value.Uninit)

-- the key at a place of the keys has what is at that place
key_has : (es : Entries) (ks : List Headed) (i : ℕ) (k : Headed) → Rise es → map (λ x. x.text.now) ks ≡ keys es → i < length ks → k ≡ get_or ks i k →
    (k.text.now ≡ (get_or es i none).0) × (found k.text.now es ≡ Some (get_or es i none).1) × (i < length es)
key_has es ks i k h e g is =
    let size : length ks ≡ length es = sym (length-map ks (λ (x : Headed). x.text.now)) ∙ ap length e ∙ length-map es (λ (x : List ℕ × Val). x.0) in
    let inside : i < length es = omega (arith, g, size) in
    let same : k.text.now ≡ (get_or es i none).0 =
    ap (λ (x : Headed). x.text.now) is ∙ sym (get_or-map (λ (x : Headed). x.text.now) ks i k [] g) ∙ ap (λ xs. get_or xs i []) e
    ∙ get_or-map (λ (x : List ℕ × Val). x.0) es i none [] inside in
    (same, ap (λ q. found q es) same ∙ found_at es i none h inside, inside)

-- one more element
pub element_more : (es : Entries) (ks : List Headed) (i : ℕ) (k : Headed) (all new : List Element) (v : ValueRef) →
    Rise es → map (λ x. x.text.now) ks ≡ keys es → i < length ks → k ≡ get_or ks i k → Some (lent_value v) ≡ found k.text.now es →
    map element_of all ≡ take i es → new ≡ all ++ (record { key = k.text; value = v }) ∷ [] → map element_of new ≡ take (i + 1) es
element_more es ks i k all new v h e g is at so_far pushed =
    let has = key_has es ks i k h e g is in
    let value : lent_value v ≡ (get_or es i none).1 = some_same (at ∙ has.1) in
    rw pushed (map-append _ all _
    ∙ ap (λ xs. xs ++ (k.text.now, lent_value v) ∷ []) so_far
    ∙ ap (λ x. take i es ++ (x, lent_value v) ∷ []) has.0
    ∙ ap (λ x. take i es ++ ((get_or es i none).0, x) ∷ []) value
    ∙ sym (take_more es i none has.2)) where
      some_same : {x y : Val} → Some x ≡ Some y → x ≡ y
      some_same e = cc

-- no key is without an element
pub element_there : (es : Entries) (ks : List Headed) (i : ℕ) (k : Headed) → Rise es → map (λ x. x.text.now) ks ≡ keys es → i < length ks → k ≡ get_or ks i k →
    None ≡ found k.text.now es → ⊥
element_there es ks i k h e g is at =
    let no : None ≡ Some (get_or es i none).1 = at ∙ (key_has es ks i k h e g is).1 in cc
