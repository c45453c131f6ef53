-- How the records of a text are cut off one by one, and parted.
use Rattle.std.proofs.Common.{◌≡◌, ℕ, zero, suc, ◌+◌, ◌<◌, ◌≤◌, Bool, true, false, not, cond, eqb, eq-eqb, List, [], ◌∷◌, ◌++◌, length, take, drop, get_or, refl, ap, arith, ◌∙◌, add-one, one-add}
use Rattle.std.specs.List.{prefix_len, onto_first}
use Rattle.std.proofs.lemmas.List.{length-take-le}
use Rattle.pawk_records.specs.Records.{records}

abbrev pub is_other : ℕ → ℕ → Bool
is_other e b = not (eqb b e)

module _ (e : ℕ) where
  longer : (b : ℕ) (s : List ℕ) → (0 < length s → records e s ≡ take (prefix_len (is_other e) s) s ∷ records e (drop (prefix_len (is_other e) s + 1) s)) → onto_first b (records e s) ≡ take (1 + prefix_len (is_other e) s) (b ∷ s) ∷ records e (drop (1 + prefix_len (is_other e) s + 1) (b ∷ s))
  longer b [] h = refl
  longer b (x ∷ s) h = rw (one-add, add-one) (ap (onto_first b) (rw add-one at (h (omega arith))))

  -- the first record, and those after it
  pub records_of_some : (s : List ℕ) → 0 < length s → records e s ≡ take (prefix_len (is_other e) s) s ∷ records e (drop (prefix_len (is_other e) s + 1) s)
  records_of_some [] h = absurd (omega arith)
  records_of_some (b ∷ s) h =
      elim (eqb b e) as (λ v. cond v ([] ∷ records e s) (onto_first b (records e s)) ≡ take (cond (not v) (1 + prefix_len (is_other e) s) 0) (b ∷ s) ∷ records e (drop (cond (not v) (1 + prefix_len (is_other e) s) 0 + 1) (b ∷ s)))
      [ true ↦ refl | false ↦ longer b s (records_of_some s) ]

  pub some_records : (s : List ℕ) → 0 < length s → 0 < length (records e s)
  some_records s h = omega (arith, ap length (records_of_some s h))

  onto_first-append : (b : ℕ) (ps qs : List (List ℕ)) → 0 < length ps → onto_first b (ps ++ qs) ≡ onto_first b ps ++ qs
  onto_first-append b [] qs h = absurd (omega arith)
  onto_first-append b (p ∷ ps) qs h = refl

  -- a cut after a separator parts the records
  pub records_cut : (s : List ℕ) (j : ℕ) → j < length s → get_or s j 0 ≡ e → records e s ≡ records e (take (suc j) s) ++ records e (drop (suc j) s)
  records_cut [] j h is = absurd (omega arith)
  records_cut (b ∷ s) zero h is = rw (eq-eqb b e is) refl
  records_cut (b ∷ s) (suc j) h is =
      let more = records_cut s j (omega arith) is in
      let some = some_records (take (suc j) s) (omega (arith, length-take-le (suc j) s (omega arith))) in
      elim (eqb b e) as (λ v. cond v ([] ∷ records e s) (onto_first b (records e s)) ≡ cond v ([] ∷ records e (take (suc j) s)) (onto_first b (records e (take (suc j) s))) ++ records e (drop (suc j) s)) [
        | true ↦ ap (λ l. [] ∷ l) more
        | false ↦ (ap (onto_first b) more ∙ onto_first-append b _ _ some)
      ]

  length-onto_first : (b : ℕ) (ps : List (List ℕ)) → length (onto_first b ps) ≤ length ps + 1
  length-onto_first b [] = omega arith
  length-onto_first b (p ∷ ps) = omega arith

  -- a record has at least a byte
  pub length-records : (s : List ℕ) → length (records e s) ≤ length s
  length-records [] = omega arith
  length-records (b ∷ s) =
      let more = length-records s in
      elim (eqb b e) as (λ v. length (cond v ([] ∷ records e s) (onto_first b (records e s))) ≤ length (b ∷ s)) [
        | true ↦ omega arith
        | false ↦ omega (arith, length-onto_first b (records e s))
      ]
