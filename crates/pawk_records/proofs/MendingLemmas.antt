-- Blocks that are mended one after the other.
use Rattle.std.proofs.Common.{◌≡◌, inl, inr, ℕ, zero, suc, ◌+◌, ◌-◌, ◌<◌, List, [], ◌∷◌, ◌++◌, length, get_or, set, subst, ap, arith, sym, ◌∙◌, append_assoc, get_or-set_same, get_or-set_other}
use Rattle.std.proofs.lemmas.Bool.Decides.{leb_tells}
use Rattle.std.proofs.lemmas.List.{get_or_append_left}
use Rattle.std.proofs.Math.ListN.{length-set}
use Rattle.pawk_records.specs.Blocks.{joined, EndsRecord, AreMended}

-- the last block of the first ones and the first of the rest hold the same together
pub joined_pair : (front back : List (List ℕ)) (n : ℕ) (d e a b : List ℕ) → length front ≡ suc n → 0 < length back → a ++ b ≡ get_or front n d ++ get_or back 0 e
    → joined (set front n a ++ set back 0 b) ≡ joined (front ++ back)
joined_pair [] back n d e a b long some same = absurd (omega arith)
joined_pair (x ∷ front) [] n d e a b long some same = absurd (omega arith)
joined_pair (x ∷ []) (y ∷ back) zero d e a b long some same =
    sym (append_assoc a b (joined back)) ∙ ap (λ l. l ++ joined back) same ∙ append_assoc x y (joined back)
joined_pair (x ∷ z ∷ front) (y ∷ back) zero d e a b long some same = absurd (omega arith)
joined_pair (x ∷ front) (y ∷ back) (suc n) d e a b long some same = ap (λ l. x ++ l) (joined_pair front (y ∷ back) n d e a b (omega arith) some same)

module _ (rs : List ℕ) where
  -- a record ends with the block, where it holds bytes
  abbrev pub Ended : List ℕ → Type 0
  Ended b = 0 < length b → EndsRecord rs b

  pub ended_pair : (blocks front back later : List (List ℕ)) (i : ℕ) (a : List ℕ) → blocks ≡ front ++ back → length front ≡ i → 0 < i
      → ((k : ℕ) → k + 1 < i → Ended (get_or blocks k [])) → Ended a → (k : ℕ) → k + 1 < i + 1 → Ended (get_or (set front (i - 1) a ++ later) k [])
  ended_pair blocks front back later i a parts long some before here k lt =
      let n = i - 1 in
      let there : get_or (set front n a ++ later) k [] ≡ get_or (set front n a) k [] = get_or_append_left (set front n a) later [] k (omega (arith, length-set front n a)) in
      elim (leb_tells n k) [
        | inl at ↦ (
            let is : k ≡ n = omega (arith, at.1) in
            subst Ended (sym (there ∙ ap (λ j. get_or (set front n a) j []) is ∙ get_or-set_same front n a [] (omega arith))) here)
        | inr low ↦
            subst Ended (sym (there ∙ get_or-set_other front n k a [] (λ e. absurd (omega (arith, low.1, e))) ∙ sym (ap (λ l. get_or l k []) parts ∙ get_or_append_left front back [] k (omega (arith, low.1)))))
            (before k (omega (arith, low.1)))
      ]

  pub mended_all : (bs : List (List ℕ)) → ((k : ℕ) → k + 1 < length bs → Ended (get_or bs k [])) → AreMended rs bs
  mended_all [] h = tt
  mended_all (b ∷ bs) h = (λ some more. h 0 (longer bs more) some, mended_all bs (λ k lt. h (suc k) (omega arith)))
    where
      longer : (bs : List (List ℕ)) → 0 < length (joined bs) → 0 + 1 < length (b ∷ bs)
      longer [] more = absurd (omega arith)
      longer (c ∷ bs) more = omega arith
