-- Paragraphs cut after two newlines.
use Rattle.std.proofs.Common.{◌≡◌, ℕ, Bool, true, false, if◌then◌else◌, List, [], ◌∷◌, ◌++◌, refl, ap, sym, ◌∙◌, subst}
use Rattle.std.specs.Prelude.{◌==◌, ◌&&◌}
use Rattle.std.specs.List.{onto_first}
use Rattle.pawk_records.specs.Records.{newline, ends_line, paragraphs_from}
use Rattle.pawk_merge_law.specs.Cuts.{EndsInTwoNewlines}

abbrev HasFirst : {X : Type 0} → List X → Type 0
HasFirst [] = ⊥
HasFirst (x ∷ xs) = Unit {0}

either_append : {X : Type 0} (c : Bool) (a b a' b' r : List X) → a ≡ a' ++ r → b ≡ b' ++ r → (if c then a else b) ≡ (if c then a' else b') ++ r
either_append true a b a' b' r h k = h
either_append false a b a' b' r h k = k

either_first : {X : Type 0} (c : Bool) (a b : List X) → HasFirst a → HasFirst b → HasFirst (if c then a else b)
either_first true a b h k = h
either_first false a b h k = k

onto_append : (b : ℕ) (a r : List (List ℕ)) → HasFirst a → onto_first b (a ++ r) ≡ onto_first b a ++ r
onto_append b [] r h = absurd h
onto_append b (x ∷ a) r h = refl

onto_has : (b : ℕ) (a : List (List ℕ)) → HasFirst (onto_first b a)
onto_has b [] = tt
onto_has b (x ∷ a) = tt

inside_has : (s : List ℕ) → HasFirst (paragraphs_from true s)
inside_has [] = tt
inside_has (b ∷ s) =
    either_first ((b == newline) && ends_line s) ([] ∷ paragraphs_from false s) (onto_first b (paragraphs_from true s)) tt
    (onto_has b (paragraphs_from true s))

-- two newlines end what is there
both : (inside : Bool) (ys : List ℕ) → paragraphs_from inside (newline ∷ newline ∷ ys) ≡ paragraphs_from inside (newline ∷ newline ∷ []) ++ paragraphs_from false ys
both true ys = refl
both false ys = refl

last_two : (inside : Bool) (a b : ℕ) (ys : List ℕ) → a ≡ newline → b ≡ newline → paragraphs_from inside (a ∷ b ∷ ys) ≡ paragraphs_from inside (a ∷ b ∷ []) ++ paragraphs_from false ys
last_two inside a b ys h k =
    subst (λ x. paragraphs_from inside (x ∷ b ∷ ys) ≡ paragraphs_from inside (x ∷ b ∷ []) ++ paragraphs_from false ys) (sym h)
    (subst (λ y. paragraphs_from inside (newline ∷ y ∷ ys) ≡ paragraphs_from inside (newline ∷ y ∷ []) ++ paragraphs_from false ys) (sym k)
    (both inside ys))

pub cut : (xs : List ℕ) (inside : Bool) (ys : List ℕ) → EndsInTwoNewlines xs → paragraphs_from inside (xs ++ ys) ≡ paragraphs_from inside xs ++ paragraphs_from false ys
cut [] inside ys h = absurd h
cut (a ∷ []) inside ys h = absurd h
cut (a ∷ b ∷ []) inside ys h = last_two inside a b ys h.0 h.1
cut (a ∷ b ∷ c ∷ s) true ys h =
    let t = b ∷ c ∷ s in
    let r = paragraphs_from false ys in
    either_append ((a == newline) && ends_line t)
    ([] ∷ paragraphs_from false (t ++ ys)) (onto_first a (paragraphs_from true (t ++ ys)))
    ([] ∷ paragraphs_from false t) (onto_first a (paragraphs_from true t)) r
    (ap (λ l. [] ∷ l) (cut (b ∷ c ∷ s) false ys h))
    (ap (λ l. onto_first a l) (cut (b ∷ c ∷ s) true ys h) ∙ onto_append a (paragraphs_from true t) r (inside_has t))
cut (a ∷ b ∷ c ∷ s) false ys h =
    let t = b ∷ c ∷ s in
    let r = paragraphs_from false ys in
    either_append (a == newline)
    (paragraphs_from false (t ++ ys)) (onto_first a (paragraphs_from true (t ++ ys)))
    (paragraphs_from false t) (onto_first a (paragraphs_from true t)) r
    (cut (b ∷ c ∷ s) false ys h)
    (ap (λ l. onto_first a l) (cut (b ∷ c ∷ s) true ys h) ∙ onto_append a (paragraphs_from true t) r (inside_has t))
