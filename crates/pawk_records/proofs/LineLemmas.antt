-- Records that end at one byte, parted at a place and counted.
use Rattle.std.proofs.Common.{◌≡◌, ◌≢◌, ◌⊎◌, inl, inr, ℕ, zero, suc, ◌+◌, ◌-◌, ◌<◌, ◌≤◌, true, false, cond, eqb, eq-eqb, List, [], ◌∷◌, ◌++◌, length, take, drop, get_or, refl, ap, arith, sym, ◌∙◌, length-append, zero-add}
use Rattle.std.proofs.lemmas.Bool.Decides.{eqb_tells}
use Rattle.std.proofs.lemmas.List.{length-take-le, get_or-take, take-take, drop-take}
use Rattle.std.proofs.lemmas.List.Sums.{sum_by-cons}
use Rattle.std.specs.List.{onto_first, count_by, prefix_len}
use Rattle.memchr.specs.Find.{is_byte}
use Rattle.pawk_records.specs.Records.{NoSeparator, records}
use Rattle.pawk_records.proofs.RecordsLemmas.{is_other, records_cut, some_records}

-- a text may be cut at p: at its begin, or after a separator
abbrev pub IsCut : ℕ → List ℕ → ℕ → Type 0
IsCut e s p = (p ≡ 0) ⊎ ((0 < p) × (p ≤ length s) × (get_or s (p - 1) 0 ≡ e))

apart : (a b : ℕ) → a ≢ b → eqb a b ≡ false
apart a b n = elim (eqb_tells a b) [ inl y ↦ absurd (n y.1) | inr f ↦ f.0 ]

-- the byte before a place, one further on in a longer text
past_front : (b : ℕ) (t : List ℕ) (j : ℕ) → 0 < j → get_or (b ∷ t) j 0 ≡ get_or t (j - 1) 0
past_front b t zero h = absurd (omega arith)
past_front b t (suc j) h = ap (λ k. get_or t k 0) (omega arith)

last_past_front : (b x : ℕ) (s : List ℕ) → get_or (x ∷ s) (length (x ∷ s) - 1) 0 ≡ get_or (b ∷ x ∷ s) (length (b ∷ x ∷ s) - 1) 0
last_past_front b x s =
    sym (past_front b (x ∷ s) (length (b ∷ x ∷ s) - 1) (omega arith) ∙ ap (λ k. get_or (x ∷ s) k 0) (omega arith))

module _ (e : ℕ) where
  -- a cut parts the records
  pub records_parts : (s : List ℕ) (p : ℕ) → IsCut e s p → records e s ≡ records e (take p s) ++ records e (drop p s)
  records_parts s zero h = refl
  records_parts s (suc p) h = elim h [
    | inl z ↦ absurd (omega arith)
    | inr cut ↦ (let at : get_or s p 0 ≡ e = ap (λ k. get_or s k 0) (omega arith) ∙ cut.2 in records_cut e s p (omega (arith, cut.1)) at)
  ]

  -- so the records before a later place are those before the cut and those between
  pub length-records-part : (s : List ℕ) (p n : ℕ) → IsCut e s p → p + n ≤ length s → length (records e (take (p + n) s)) ≡ length (records e (take p s)) + length (records e (take n (drop p s)))
  length-records-part s p n h le =
      let t = take (p + n) s in
      let long : length t ≡ p + n = length-take-le (p + n) s le in
      let cut : IsCut e t p = elim h [
        | inl z ↦ inl z
        | inr c ↦ inr (c.0, omega (arith, long), get_or-take (p + n) s (p - 1) 0 (omega (arith, c.0)) ∙ c.2)
      ] in
      ap length (records_parts t p cut) ∙ length-append (records e (take p t)) (records e (drop p t))
      ∙ ap (λ l. length (records e l) + length (records e (drop p t))) (take-take p (p + n) s (omega arith))
      ∙ ap (λ l. length (records e (take p s)) + length (records e l)) (drop-take p n s)

  -- how the count goes on
  length-records-cons : (b x : ℕ) (s : List ℕ) → length (records e (b ∷ x ∷ s)) ≡ cond (eqb b e) 1 0 + length (records e (x ∷ s))
  length-records-cons b x s =
      let some = some_records e (x ∷ s) (omega arith) in
      elim (eqb b e) as (λ v. length (cond v ([] ∷ records e (x ∷ s)) (onto_first b (records e (x ∷ s)))) ≡ cond v 1 0 + length (records e (x ∷ s))) [
        | true ↦ omega arith
        | false ↦ longer (records e (x ∷ s)) some
      ]
    where
      longer : (ps : List (List ℕ)) → 0 < length ps → length (onto_first b ps) ≡ 0 + length ps
      longer [] h = absurd (omega arith)
      longer (p ∷ ps) h = omega arith

  -- a text that ends with a separator has a record for each
  pub length-records-ended : (s : List ℕ) → 0 < length s → get_or s (length s - 1) 0 ≡ e → length (records e s) ≡ count_by (is_byte e) s
  length-records-ended [] h last = absurd (omega arith)
  length-records-ended (b ∷ []) h last = rw (eq-eqb b e last) refl
  length-records-ended (b ∷ x ∷ s) h last =
      length-records-cons b x s ∙ ap (λ n. cond (eqb b e) 1 0 + n) (length-records-ended (x ∷ s) (omega arith) (last_past_front b x s ∙ last))
      ∙ sym (sum_by-cons (λ y. cond (is_byte e y) 1 0) b (x ∷ s))

  -- another has one more
  pub length-records-open : (s : List ℕ) → 0 < length s → get_or s (length s - 1) 0 ≢ e → length (records e s) ≡ count_by (is_byte e) s + 1
  length-records-open [] h last = absurd (omega arith)
  length-records-open (b ∷ []) h last = rw (apart b e last) refl
  length-records-open (b ∷ x ∷ s) h last =
      let more = length-records-open (x ∷ s) (omega arith) (λ is. last (sym (last_past_front b x s) ∙ is)) in
      let counts = sum_by-cons (λ y. cond (is_byte e y) 1 0) b (x ∷ s) in
      let step = length-records-cons b x s in
      omega arith

  -- ---- bytes in which no line ends

  -- the first line goes on after them
  pub past_none : (n : ℕ) (s : List ℕ) → n ≤ length s → NoSeparator e (take n s) → prefix_len (is_other e) s ≡ n + prefix_len (is_other e) (drop n s)
  past_none zero s le none = sym (zero-add _)
  past_none (suc n) [] le none = absurd (omega arith)
  past_none (suc n) (b ∷ s) le none =
      let more = past_none n s (omega arith) none.1 in
      rw (apart b e none.0) (omega (arith, more))

  -- more of them
  pub none_on : (n m : ℕ) (s : List ℕ) → NoSeparator e (take n s) → NoSeparator e (take m (drop n s)) → NoSeparator e (take (n + m) s)
  none_on zero m s none more = rw zero-add more
  none_on (suc n) m [] none more = let on : suc n + m ≡ suc (n + m) = omega arith in rw on tt
  none_on (suc n) m (b ∷ s) none more =
      let on : suc n + m ≡ suc (n + m) = omega arith in
      rw on (none.0, none_on n m s none.1 more)
