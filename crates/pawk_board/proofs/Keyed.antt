-- Lists of what was made of the chunks, each with its chunk's number as its key.
use Rattle.std.proofs.Common.{◌≡◌, ℕ, suc, ◌<◌, ◌≤◌, Bool, true, false, cond, nat_lt, List, [], ◌∷◌, map, filter, Contains, sum_by, IsPermutation, true≢false, refl, sym, ap, ◌∙◌, ⊎_elim, arith}
use Rattle.std.specs.List.{range_with_len}
use Rattle.std.specs.List.Sorted.{IsNonDecreasingBy}
use Rattle.std.proofs.lemmas.List.Elements.{All-nil, All-cons, All-map, All-contains, Contains-append_left, Contains-append_right, Contains-append_cases}
use Rattle.std.proofs.lemmas.List.Sorted.{sum_by-IsPermutation, IsPermutation-map}
use Rattle.std.proofs.lemmas.List.Sums.{sum_by-cons}
use Rattle.pawk_board.proofs.Weights.{Weighs, Climbs, climbs_as_range, cut_at}

module _ {A : Type 0} (key : A → ℕ) where
  -- those whose key is below D
  abbrev pub kept_below : ℕ → List A → List A
  kept_below D xs = filter (λ x. nat_lt (key x) D) xs

  -- to weigh the numbers below D alone is to weigh those that are kept
  pub cut_filter : (D : ℕ) (f : ℕ → ℕ) (xs : List A) → sum_by (cut_at D f) (map key xs) ≡ sum_by f (map key (kept_below D xs))
  cut_filter D f [] = refl
  cut_filter D f (x ∷ xs) = one (nat_lt (key x) D) refl (cut_filter D f xs)
    where
      one : (b : Bool) → nat_lt (key x) D ≡ b → sum_by (cut_at D f) (map key xs) ≡ sum_by f (map key (kept_below D xs))
          → sum_by (cut_at D f) (key x ∷ map key xs) ≡ sum_by f (map key (cond b (x ∷ kept_below D xs) (kept_below D xs)))
      one true e rest =
          let g = cut_at D f in
          let same : g (key x) ≡ f (key x) = ap (λ b. cond b (f (key x)) 0) e in
          omega (arith, rest, same, sum_by-cons g (key x) (map key xs), sum_by-cons f (key x) (map key (kept_below D xs)))
      one false e rest =
          let g = cut_at D f in
          let none : g (key x) ≡ 0 = ap (λ b. cond b (f (key x)) 0) e in
          omega (arith, rest, none, sum_by-cons g (key x) (map key xs))

  -- the keys of a list that was sorted by them
  pub climbs_from : (xs : List A) → IsNonDecreasingBy key xs → Climbs (map key xs)
  climbs_from [] up = tt
  climbs_from (x ∷ xs) up = (
    All-map (λ n. key x ≤ n) key xs (λ k d h. up 0 (suc k) d (omega arith) (omega arith)),
    climbs_from xs (λ i j d le lt. up (suc i) (suc j) d (omega arith) (omega arith)),
  )

  -- a list whose keys weigh as the numbers below C, once it is sorted by them, has these numbers as keys, in order
  pub in_order : (C : ℕ) (xs sorted : List A) → Weighs (range_with_len 0 C) (map key xs) → IsPermutation xs sorted → IsNonDecreasingBy key sorted → map key sorted ≡ range_with_len 0 C
  in_order C xs sorted weighs perm up =
      climbs_as_range C 0 (map key sorted) (climbs_from sorted up)
      (λ f. weighs f ∙ sym (sum_by-IsPermutation f (map key xs) (map key sorted) (IsPermutation-map key xs sorted perm)))

module _ {A : Type 0} where
  contains_more : (test : A → Bool) (x y : A) (ys : List A) → test x ≡ true → (Contains ys x → Contains (filter test ys) x) → Contains (y ∷ ys) x → (b : Bool) → test y ≡ b → Contains (cond b (y ∷ filter test ys) (filter test ys)) x
  contains_more test x y ys pass rest c true e =
      ⊎_elim (λ here. Contains-append_left (y ∷ []) (filter test ys) x here) (λ there. Contains-append_right (y ∷ []) (filter test ys) x (rest there)) (Contains-append_cases (y ∷ []) ys x c)
  contains_more test x y ys pass rest c false e =
      ⊎_elim
      (λ (here : Contains (y ∷ []) x).
      let same : y ≡ x = All-contains (λ z. y ≡ z) (y ∷ []) x (All-cons (λ z. y ≡ z) y [] refl (All-nil (λ z. y ≡ z))) here in
      absurd (true≢false (sym pass ∙ (ap test (sym same) ∙ e))))
      (λ there. rest there)
      (Contains-append_cases (y ∷ []) ys x c)

  -- what passes the test is kept
  pub contains_filter : (test : A → Bool) (xs : List A) (x : A) → test x ≡ true → Contains xs x → Contains (filter test xs) x
  contains_filter test [] x pass c = absurd (let h : c.0 < 0 = c.1 in omega arith)
  contains_filter test (y ∷ ys) x pass c = contains_more test x y ys pass (λ r. contains_filter test ys x pass r) c (test y) refl
