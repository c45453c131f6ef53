-- Each step keeps what the seats did lawful.
use Rattle.std.proofs.Common.{◌≡◌, ℕ, zero, suc, ◌+◌, ◌<◌, ◌≤◌, List, [], ◌∷◌, ◌++◌, All, Contains, IsPermutation, min, ⊎_elim, sym, ap, ◌∙◌, subst, arith, append_assoc}
use native.Mathlib.Decide.{dec_le}
use Rattle.std.specs.List.{range_with_len}
use Rattle.std.proofs.lemmas.Grind.{flat_map-append}
use Rattle.std.proofs.lemmas.List.Elements.{All-weaker, All-append, All-push, Contains-append_left, Contains-append_right, Contains-append_cases, Contains-push}
use Rattle.std.proofs.lemmas.List.Sorted.{All-permutation, Contains-permutation, IsPermutation-sym, IsPermutation-trans, IsPermutation-cons, IsPermutation-to_front, IsPermutation-middle}
use Rattle.pawk_board.specs.declared.hand.Hand.{Hand}
use Rattle.pawk_board.specs.History.{drawn_by, told_by, IsLeast, ToldOwn, SawStops, Lawful, drew, tells, sees}
use Rattle.pawk_board.proofs.Cuts.{all_at, all_front, all_back, moved_perm, flat_moved}

range_more_from : (a n : ℕ) → range_with_len a (suc n) ≡ range_with_len a n ++ (a + n) ∷ []
range_more_from a zero = ap (λ (k : ℕ). k ∷ []) (omega arith)
range_more_from a (suc n) =
    let e : (a + 1) + n ≡ a + suc n = omega arith in
    ap (λ l. a ∷ l) (subst (λ (k : ℕ). range_with_len (a + 1) (suc n) ≡ range_with_len (a + 1) n ++ k ∷ []) e (range_more_from (a + 1) n))

range_more : (n : ℕ) → range_with_len 0 (n + 1) ≡ range_with_len 0 n ++ n ∷ []
range_more n =
    let e : suc n ≡ n + 1 = omega arith in
    let z : 0 + n ≡ n = omega arith in
    subst (λ (k : ℕ). range_with_len 0 k ≡ range_with_len 0 n ++ n ∷ []) e (subst (λ (k : ℕ). range_with_len 0 (suc n) ≡ range_with_len 0 n ++ k ∷ []) z (range_more_from 0 n))

-- the numbers that were drawn, with one more
draws_more : (n : ℕ) (xs ys zs : List ℕ) → IsPermutation (range_with_len 0 n) (xs ++ (ys ++ zs)) → IsPermutation (range_with_len 0 (n + 1)) (xs ++ ((ys ++ n ∷ []) ++ zs))
draws_more n xs ys zs p =
    let r = range_with_len 0 n in
    let regroup : xs ++ ((ys ++ n ∷ []) ++ zs) ≡ (xs ++ ys) ++ n ∷ zs = simp append_assoc in
    let p' : IsPermutation r ((xs ++ ys) ++ zs) = subst (IsPermutation r) (sym (append_assoc xs ys zs)) p in
    let first : IsPermutation (r ++ n ∷ []) (n ∷ r) = IsPermutation-to_front r n in
    let second : IsPermutation (n ∷ r) (n ∷ ((xs ++ ys) ++ zs)) = IsPermutation-cons n r ((xs ++ ys) ++ zs) p' in
    let third : IsPermutation (n ∷ ((xs ++ ys) ++ zs)) ((xs ++ ys) ++ n ∷ zs) = IsPermutation-sym ((xs ++ ys) ++ n ∷ zs) (n ∷ ((xs ++ ys) ++ zs)) (IsPermutation-middle (xs ++ ys) n zs) in
    subst (λ (l : List ℕ). IsPermutation l (xs ++ ((ys ++ n ∷ []) ++ zs))) (sym (range_more n))
    (subst (IsPermutation (r ++ n ∷ [])) (sym regroup)
    (IsPermutation-trans (r ++ n ∷ []) (n ∷ r) ((xs ++ ys) ++ n ∷ zs) first (IsPermutation-trans (n ∷ r) (n ∷ ((xs ++ ys) ++ zs)) ((xs ++ ys) ++ n ∷ zs) second third)))

-- a seat draws the number that the counter has
pub lawful_draw : (C n s : ℕ) (A B : List Hand) (h : Hand) → Lawful C n s (A ++ h ∷ B) → Lawful C (n + 1) s (A ++ drew h n ∷ B)
lawful_draw C n s A B h l =
    let H = A ++ h ∷ B in
    let H' = A ++ drew h n ∷ B in
    let d : Hand → List ℕ = λ x. x.drawn in
    let t : Hand → List ℕ = λ x. x.told in
    let same : told_by H' ≡ told_by H = flat_map-append t A (drew h n ∷ B) ∙ sym (flat_map-append t A (h ∷ B)) in
    record {
      draws = subst (IsPermutation (range_with_len 0 (n + 1))) (sym (flat_map-append d A (drew h n ∷ B)))
          (draws_more n (drawn_by A) h.drawn (drawn_by B) (subst (IsPermutation (range_with_len 0 n)) (flat_map-append d A (h ∷ B)) l.draws));
      told = all_at (ToldOwn C) (ToldOwn C) A B h (drew h n) (λ x p. p)
          (All-weaker (λ (m : ℕ). (m < C) × Contains h.drawn m) (λ (m : ℕ). (m < C) × Contains (drew h n).drawn m) (λ m p. (p.0, Contains-append_left h.drawn (n ∷ []) m p.1)) h.told)
          l.told;
      least = subst (λ (z : List ℕ). IsLeast s (C ∷ z)) (sym same) l.least;
      saw = subst (λ (z : List ℕ). All (SawStops s (C ∷ z)) H') (sym same)
          (all_at (SawStops s (C ∷ told_by H)) (SawStops s (C ∷ told_by H)) A B h (drew h n) (λ x p. p) (λ p. p) l.saw);
    }

-- the order of the seats does not matter
pub lawful_moved : (C n s : ℕ) (F X Y G : List Hand) → Lawful C n s (F ++ (X ++ (Y ++ G))) → Lawful C n s (F ++ (Y ++ (X ++ G)))
lawful_moved C n s F X Y G l =
    let H = F ++ (X ++ (Y ++ G)) in
    let H' = F ++ (Y ++ (X ++ G)) in
    let seats : IsPermutation H H' = moved_perm F X Y G in
    let drawn_perm : IsPermutation (drawn_by H) (drawn_by H') = flat_moved (λ (x : Hand). x.drawn) F X Y G in
    let stops_perm : IsPermutation (C ∷ told_by H) (C ∷ told_by H') = IsPermutation-cons C (told_by H) (told_by H') (flat_moved (λ (x : Hand). x.told) F X Y G) in
    record {
      draws = IsPermutation-trans (range_with_len 0 n) (drawn_by H) (drawn_by H') l.draws drawn_perm;
      told = All-permutation (ToldOwn C) H H' seats l.told;
      least = (
        Contains-permutation (C ∷ told_by H) (C ∷ told_by H') s stops_perm l.least.0,
        All-permutation (λ x. s ≤ x) (C ∷ told_by H) (C ∷ told_by H') stops_perm l.least.1,
      );
      saw = All-permutation (SawStops s (C ∷ told_by H')) H H' seats
          (All-weaker (SawStops s (C ∷ told_by H)) (SawStops s (C ∷ told_by H'))
          (λ h. All-weaker (λ w. Contains (C ∷ told_by H) w × (s ≤ w)) (λ w. Contains (C ∷ told_by H') w × (s ≤ w))
          (λ w p. (Contains-permutation (C ∷ told_by H) (C ∷ told_by H') w stops_perm p.0, p.1)) h.saw)
          H l.saw);
    }

contains_more : (xs ys zs : List ℕ) (k w : ℕ) → Contains (xs ++ (ys ++ zs)) w → Contains (xs ++ ((ys ++ k ∷ []) ++ zs)) w
contains_more xs ys zs k w h =
    ⊎_elim
    (λ a. Contains-append_left xs ((ys ++ k ∷ []) ++ zs) w a)
    (λ b. Contains-append_right xs ((ys ++ k ∷ []) ++ zs) w
    (⊎_elim
    (λ c. Contains-append_left (ys ++ k ∷ []) zs w (Contains-append_left ys (k ∷ []) w c))
    (λ d. Contains-append_right (ys ++ k ∷ []) zs w d)
    (Contains-append_cases ys zs w b)))
    (Contains-append_cases xs (ys ++ zs) w h)

-- the lesser of the least number and one that comes in is there
least_there_more : (s k : ℕ) (xs ys zs : List ℕ) → Contains (xs ++ (ys ++ zs)) s → Dec (s ≤ k) → Contains (xs ++ ((ys ++ k ∷ []) ++ zs)) (min s k)
least_there_more s k xs ys zs there (yes le) =
    let e : s ≡ min s k = omega arith in
    subst (Contains (xs ++ ((ys ++ k ∷ []) ++ zs))) e (contains_more xs ys zs k s there)
least_there_more s k xs ys zs there (no gt) =
    let e : k ≡ min s k = omega arith in
    subst (Contains (xs ++ ((ys ++ k ∷ []) ++ zs))) e (Contains-append_right xs ((ys ++ k ∷ []) ++ zs) k (Contains-append_left (ys ++ k ∷ []) zs k (Contains-push ys k)))

-- the least of a list into which a number comes
least_more : (s k : ℕ) (xs ys zs : List ℕ) → IsLeast s (xs ++ (ys ++ zs)) → IsLeast (min s k) (xs ++ ((ys ++ k ∷ []) ++ zs))
least_more s k xs ys zs l =
    let P : ℕ → Type 0 = λ x. min s k ≤ x in
    let all : All P (xs ++ (ys ++ zs)) = All-weaker (λ x. s ≤ x) P (λ x h. omega arith) (xs ++ (ys ++ zs)) l.1 in
    let back : All P (ys ++ zs) = all_back P xs (ys ++ zs) all in (
      least_there_more s k xs ys zs l.0 (dec_le s k),
      All-append P xs ((ys ++ k ∷ []) ++ zs) (all_front P xs (ys ++ zs) all) (All-append P (ys ++ k ∷ []) zs (All-push P ys k (all_front P ys zs back) (omega arith)) (all_back P ys zs back)),
    )

-- a seat reports a chunk that it drew, and the stop becomes the lesser
pub lawful_tell : (C n s k : ℕ) (A B : List Hand) (h : Hand) → k < C → Contains h.drawn k → Lawful C n s (A ++ h ∷ B) → Lawful C n (min s k) (A ++ tells h k ∷ B)
lawful_tell C n s k A B h small mine l =
    let H = A ++ h ∷ B in
    let H' = A ++ tells h k ∷ B in
    let d : Hand → List ℕ = λ x. x.drawn in
    let t : Hand → List ℕ = λ x. x.told in
    let same : drawn_by H ≡ drawn_by H' = flat_map-append d A (h ∷ B) ∙ sym (flat_map-append d A (tells h k ∷ B)) in
    let were : told_by H ≡ told_by A ++ (h.told ++ told_by B) = flat_map-append t A (h ∷ B) in
    let are : told_by H' ≡ told_by A ++ ((h.told ++ k ∷ []) ++ told_by B) = flat_map-append t A (tells h k ∷ B) in
    let more : (w : ℕ) → Contains (C ∷ told_by H) w → Contains (C ∷ told_by H') w =
    λ w c. subst (λ (z : List ℕ). Contains (C ∷ z) w) (sym are) (contains_more (C ∷ told_by A) h.told (told_by B) k w (subst (λ (z : List ℕ). Contains (C ∷ z) w) were c)) in
    let stops : (x : Hand) → SawStops s (C ∷ told_by H) x → SawStops (min s k) (C ∷ told_by H') x =
    λ x. All-weaker (λ w. Contains (C ∷ told_by H) w × (s ≤ w)) (λ w. Contains (C ∷ told_by H') w × (min s k ≤ w)) (λ w p. (more w p.0, omega (arith, p.1))) x.saw in
    record {
      draws = subst (IsPermutation (range_with_len 0 n)) same l.draws;
      told = all_at (ToldOwn C) (ToldOwn C) A B h (tells h k) (λ x p. p) (λ p. All-push (λ m. (m < C) × Contains h.drawn m) h.told k p (small, mine)) l.told;
      least = subst (λ (z : List ℕ). IsLeast (min s k) (C ∷ z)) (sym are) (least_more s k (C ∷ told_by A) h.told (told_by B) (subst (λ (z : List ℕ). IsLeast s (C ∷ z)) were l.least));
      saw = all_at (SawStops s (C ∷ told_by H)) (SawStops (min s k) (C ∷ told_by H')) A B h (tells h k) stops (stops h) l.saw;
    }

-- a seat sees the stop
pub lawful_look : (C n s : ℕ) (A B : List Hand) (h : Hand) → Lawful C n s (A ++ h ∷ B) → Lawful C n s (A ++ sees h s ∷ B)
lawful_look C n s A B h l =
    let H = A ++ h ∷ B in
    let H' = A ++ sees h s ∷ B in
    let d : Hand → List ℕ = λ x. x.drawn in
    let t : Hand → List ℕ = λ x. x.told in
    let same : drawn_by H ≡ drawn_by H' = flat_map-append d A (h ∷ B) ∙ sym (flat_map-append d A (sees h s ∷ B)) in
    let told : told_by H ≡ told_by H' = flat_map-append t A (h ∷ B) ∙ sym (flat_map-append t A (sees h s ∷ B)) in
    record {
      draws = subst (IsPermutation (range_with_len 0 n)) same l.draws;
      told = all_at (ToldOwn C) (ToldOwn C) A B h (sees h s) (λ x p. p) (λ p. p) l.told;
      least = subst (λ (z : List ℕ). IsLeast s (C ∷ z)) told l.least;
      saw = subst (λ (z : List ℕ). All (SawStops s (C ∷ z)) H') told
          (all_at (SawStops s (C ∷ told_by H)) (SawStops s (C ∷ told_by H)) A B h (sees h s) (λ x p. p)
          (λ p. All-push (λ w. Contains (C ∷ told_by H) w × (s ≤ w)) h.saw s p (l.least.0, omega arith)) l.saw);
    }
