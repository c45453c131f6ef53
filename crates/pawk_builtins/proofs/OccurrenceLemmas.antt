-- The first place where one text occurs in another.
use Rattle.std.proofs.Common.{◌≡◌, ℕ, inl, inr, zero, suc, ◌+◌, ◌-◌, ◌<◌, ◌≤◌, true, List, [], ◌∷◌, length, length-drop, drop, get_or, refl, sym, ap, ◌∙◌, arith, eqb-true, eq-eqb, zero-add}
use Rattle.std.proofs.lemmas.Bool.{cases_lt, cond-true, cond-false, and_parts, and_from, false_from_ne_true}
use Rattle.memchr.specs.Find.{Nowhere, OccursAt, Passes, is_byte}
use Rattle.std.specs.Prelude.{slice_index}
use Rattle.std.proofs.lemmas.List.{get_or-drop}
use Rattle.pawk_store.specs.Builtins.{begins_with, index_from, index}

byte_at : (s t : List ℕ) (k j n : ℕ) → OccursAt s t k → n ≡ k + j → j < length t → get_or s n 0 ≡ get_or t j 0
byte_at s t k j n at e below = ap (λ m. get_or s m 0) e ∙ at.reads j below

tail_at : (b c : ℕ) (s t : List ℕ) → OccursAt (b ∷ s) (c ∷ t) 0 → OccursAt s t 0
tail_at b c s t at = record {
  fits = omega (arith, at.fits);
  reads = λ j below. byte_at (b ∷ s) (c ∷ t) 0 (suc j) (suc (0 + j)) at (omega arith) (omega arith);
}

begins_is : (t s : List ℕ) → begins_with t s ≡ true → OccursAt s t 0
begins_is [] s h = record { fits = omega arith; reads = λ j below. absurd (omega arith) }
begins_is (c ∷ t) [] h = cc
begins_is (c ∷ t) (b ∷ s) h =
    let both = and_parts _ _ h in
    let rest = begins_is t s both.1 in
    let same = eqb-true c b both.0 in
    record { fits = omega (arith, rest.fits); reads = reads (sym same) rest }
  where
    reads : b ≡ c → OccursAt s t 0 → (j : ℕ) → j < length (c ∷ t) → get_or (b ∷ s) (0 + j) 0 ≡ get_or (c ∷ t) j 0
    reads same rest zero below = same
    reads same rest (suc j) below =
        let e : 0 + suc j ≡ suc j = omega arith in
        ap (λ n. get_or (b ∷ s) n 0) e ∙ byte_at s t 0 j j rest (omega arith) (omega arith)

begins_if : (t s : List ℕ) → OccursAt s t 0 → begins_with t s ≡ true
begins_if [] s at = refl
begins_if (c ∷ t) [] at = absurd (omega (arith, at.fits))
begins_if (c ∷ t) (b ∷ s) at = and_from _ _ (eq-eqb c b (sym (at.reads 0 (omega arith)))) (begins_if t s (tail_at b c s t at))

behind : (b : ℕ) (s t : List ℕ) (k : ℕ) → OccursAt (b ∷ s) t (suc k) → OccursAt s t k
behind b s t k at = record {
  fits = omega (arith, at.fits);
  reads = λ j below. byte_at (b ∷ s) t (suc k) j (suc (k + j)) at (omega arith) below;
}

before : (b : ℕ) (s t : List ℕ) (k : ℕ) → OccursAt s t k → OccursAt (b ∷ s) t (suc k)
before b s t k at = record {
  fits = omega (arith, at.fits);
  reads = λ j below.
      let e : suc k + j ≡ suc (k + j) = omega arith in
      ap (λ n. get_or (b ∷ s) n 0) e ∙ at.reads j below;
}

index_none : (place : ℕ) (s t : List ℕ) → ((k : ℕ) → OccursAt s t k → ⊥) → index_from place s t ≡ 0
index_none place [] t none = refl
index_none place (b ∷ s) t none =
    cond-false _ _ _ (false_from_ne_true _ (λ h. none 0 (begins_is t (b ∷ s) h)))
    ∙ index_none (suc place) s t (λ k at. none (suc k) (before b s t k at))

index_some : (place : ℕ) (s t : List ℕ) (k : ℕ) → 0 < length t → OccursAt s t k → ((j : ℕ) → j < k → OccursAt s t j → ⊥) → index_from place s t ≡ k + place
index_some place [] t k long at none = absurd (omega (arith, at.fits))
index_some place (b ∷ s) t zero long at none = cond-true _ _ _ (begins_if t (b ∷ s) at) ∙ sym (zero-add place)
index_some place (b ∷ s) t (suc k) long at none =
    let next = index_some (suc place) s t k long (behind b s t k at) (λ j below found. none (suc j) (omega arith) (before b s t j found)) in
    let same : k + suc place ≡ suc k + place = omega arith in
    cond-false _ _ _ (false_from_ne_true _ (λ h. none 0 (omega arith) (begins_is t (b ∷ s) h))) ∙ (next ∙ same)

pub index_is_none : (s t : List ℕ) → 0 < length t → ((k : ℕ) → OccursAt s t k → ⊥) → 0 ≡ index s t
index_is_none s [] long none = refl
index_is_none s (c ∷ t) long none = sym (index_none 1 s (c ∷ t) none)

pub index_is_some : (s t : List ℕ) (k : ℕ) → 0 < length t → OccursAt s t k → ((j : ℕ) → j < k → OccursAt s t j → ⊥) → k + 1 ≡ index s t
index_is_some s [] k long at none = absurd (omega arith)
index_is_some s (c ∷ t) k long at none = sym (index_some 1 s (c ∷ t) k long at none)

-- ---- by the first byte

-- it occurs nowhere before a place where it did not up to another, and from there on its first byte does not
pub none_up_to : (s t : List ℕ) (from end : ℕ) → 0 < length t → Nowhere (OccursAt s t) 0 from
    → Nowhere (Passes (is_byte (slice_index t 0)) (drop from s)) 0 end → Nowhere (OccursAt s t) 0 (from + end)
none_up_to s t from end some before none k low high at = elim (cases_lt k from) [
  | inl less ↦ before k low less at
  | inr more ↦
      let there : from + (k - from) ≡ k = omega arith in
      none (k - from) (omega arith) (omega arith)
      (eq-eqb _ _ (get_or-drop from s (k - from) 0 ∙ ap (λ n. get_or s n 0) there ∙ byte_at s t k 0 k at (omega arith) some))
]

-- it occurs at a place just where the text from there begins with it
pub occurs_after : (s t : List ℕ) (k : ℕ) → k ≤ length s → OccursAt (drop k s) t 0 → OccursAt s t k
occurs_after s t k le at = record {
  fits = omega (arith, at.fits, length-drop k s);
  reads = λ j below. sym (get_or-drop k s j 0) ∙ byte_at (drop k s) t 0 j j at (omega arith) below;
}

pub occurs_there : (s t : List ℕ) (k : ℕ) → OccursAt s t k → OccursAt (drop k s) t 0
occurs_there s t k at = record {
  fits = omega (arith, at.fits, length-drop k s);
  reads = λ j below. (let e : 0 + j ≡ j = omega arith in ap (λ n. get_or (drop k s) n 0) e) ∙ get_or-drop k s j 0 ∙ at.reads j below;
}
