-- Scalars and arrays that are joined slot by slot.
use Rattle.std.proofs.Common.{◌≡◌, ◌<◌, ◌≤◌, ◌+◌, ℕ, zero, suc, length, ⊎_elim, Bool, true, false, List, [], ◌∷◌, get_or, set, drop, refl, sym, ◌∙◌, ap, arith, add-one}
use Rattle.std.specs.Prelude.{◌&&◌, ◌≢◌, Some, slice_get}
use Rattle.std.specs.Option.{option_map}
use Rattle.std.proofs.lemmas.List.{get_or-set_other, get_or-set_same, set-set, same_lists, length-set, drop_more, length-drop}
use Rattle.std.proofs.lemmas.Bool.{cases_lt}
use Rattle.pawk_store.specs.Globals.{Globals}
use Rattle.pawk_merge.specs.Tables.{by_place, each_below}

pub get_or-default : {X : Type 0} (xs : List X) (k : ℕ) (e e' : X) → k < length xs → get_or xs k e ≡ get_or xs k e'
get_or-default [] k e e' h = absurd (omega (arith, h))
get_or-default (x ∷ xs) zero e e' h = refl
get_or-default (x ∷ xs) (suc k) e e' h = get_or-default xs k e e' (omega (arith, h))

module _ {X : Type 0} (f : ℕ → X → X) where
  pub get_or-by_place : (j k : ℕ) (xs : List X) (e : X) → k < length xs → get_or (by_place f j xs) k e ≡ f (j + k) (get_or xs k e)
  get_or-by_place j k [] e h = absurd (omega (arith, h))
  get_or-by_place j zero (x ∷ xs) e h = let same : j ≡ j + 0 = omega arith in ap (λ n. f n x) same
  get_or-by_place j (suc k) (x ∷ xs) e h =
      let same : suc j + k ≡ j + suc k = omega arith in
      get_or-by_place (suc j) k xs e (omega (arith, h)) ∙ ap (λ n. f n (get_or xs k e)) same

  pub length-by_place : (j : ℕ) (xs : List X) → length (by_place f j xs) ≡ length xs
  length-by_place j [] = refl
  length-by_place j (x ∷ xs) = ap suc (length-by_place (suc j) xs)

  pub slice_get-by_place : (j k : ℕ) (xs : List X) → slice_get (by_place f j xs) k ≡ option_map (f (j + k)) (slice_get xs k)
  slice_get-by_place j k [] = refl
  slice_get-by_place j zero (x ∷ xs) = let same : j ≡ j + 0 = omega arith in ap (λ n. Some (f n x)) same
  slice_get-by_place j (suc k) (x ∷ xs) =
      let same : suc j + k ≡ j + suc k = omega arith in
      slice_get-by_place (suc j) k xs ∙ ap (λ n. option_map (f n) (slice_get xs k)) same

module _ {X : Type 0} (d : X) (f : ℕ → X → X) where
  -- the first n slots are changed
  abbrev pub done : ℕ → List X → List X
  done zero xs = xs
  done (suc i) xs = set (done i xs) i (f i (get_or xs i d))

  pub length-done : (i : ℕ) (xs : List X) → length (done i xs) ≡ length xs
  length-done zero xs = refl
  length-done (suc i) xs = length-set (done i xs) i (f i (get_or xs i d)) ∙ length-done i xs

  pub done_above : (i k : ℕ) (xs : List X) (e : X) → i ≤ k → get_or (done i xs) k e ≡ get_or xs k e
  done_above zero k xs e h = refl
  done_above (suc i) k xs e h =
      let apart : k ≢ i = λ same. absurd (omega (arith, h, same)) in
      get_or-set_other (done i xs) i k (f i (get_or xs i d)) e apart ∙ done_above i k xs e (omega (arith, h))

  done_below : (i k : ℕ) (xs : List X) (e : X) → k < i → k < length xs → get_or (done i xs) k e ≡ f k (get_or xs k e)
  done_below zero k xs e h within = absurd (omega (arith, h))
  done_below (suc i) k xs e h within = ⊎_elim (λ g. here g (done_below i k xs e g within)) there (cases_lt k i) where
    there : i ≤ k → get_or (done (suc i) xs) k e ≡ f k (get_or xs k e)
    there g =
        let same : i ≡ k = omega (arith, g, h) in
        let inside : k < length (done k xs) = omega (arith, within, length-done k xs) in
        rw same (get_or-set_same (done k xs) k (f k (get_or xs k d)) e inside ∙ ap (f k) (get_or-default xs k d e within))

    here : k < i → get_or (done i xs) k e ≡ f k (get_or xs k e) → get_or (done (suc i) xs) k e ≡ f k (get_or xs k e)
    here g before =
        let apart : k ≢ i = λ same. absurd (omega (arith, g, same)) in
        get_or-set_other (done i xs) i k (f i (get_or xs i d)) e apart ∙ before

  -- after the last slot that is changed all stay
  pub done_all : (i : ℕ) (xs : List X) → ((k : ℕ) (x : X) → i ≤ k → f k x ≡ x) → done i xs ≡ by_place f 0 xs
  done_all i xs stays = same_lists (done i xs) (by_place f 0 xs) (length-done i xs ∙ sym (length-by_place f 0 xs)) each where
    each : (k : ℕ) (e : X) → k < length (done i xs) → get_or (done i xs) k e ≡ get_or (by_place f 0 xs) k e
    each k e h =
        let within : k < length xs = omega (arith, h, length-done i xs) in
        let same : 0 + k ≡ k = omega arith in
        let there : get_or (by_place f 0 xs) k e ≡ f k (get_or xs k e) = get_or-by_place f 0 k xs e within ∙ ap (λ n. f n (get_or xs k e)) same in
        ⊎_elim (λ g. done_below i k xs e g within ∙ sym there) (λ g. done_above i k xs e g ∙ sym (stays k (get_or xs k e) g) ∙ sym there) (cases_lt k i)

  -- one slot more
  pub done_more : (i : ℕ) (xs ys : List X) (v w : X) → ys ≡ done i xs → v ≡ get_or ys i d → w ≡ f i v → set (set ys i d) i w ≡ done (i + 1) xs
  done_more i xs ys v w now at is =
      let value : w ≡ f i (get_or xs i d) = is ∙ ap (f i) (at ∙ ap (λ zs. get_or zs i d) now ∙ done_above i i xs d (omega arith)) in
      set-set ys i d w ∙ ap (λ zs. set zs i w) now ∙ ap (set (done i xs) i) value ∙ ap (λ n. done n xs) (sym (add-one i))

-- ---- tests below a number

pub each_below_more : (i : ℕ) (p : ℕ → Bool) → each_below i p ≡ true → p i ≡ true → each_below (i + 1) p ≡ true
each_below_more i p h e = rw (add-one i, h) e

first_true : (a b : Bool) → (a && b) ≡ true → a ≡ true
first_true true b g = refl
first_true false b g = cc

pub each_below_fewer : (n i : ℕ) (p : ℕ → Bool) → n ≤ i → each_below i p ≡ true → each_below n p ≡ true
each_below_fewer n zero p h e = let same : n ≡ 0 = omega (arith, h) in rw same refl
each_below_fewer n (suc i) p h e =
    ⊎_elim (λ g. each_below_fewer n i p (omega (arith, g)) (first_true (each_below i p) (p i) e)) same (cases_lt n (suc i)) where
      same : suc i ≤ n → each_below n p ≡ true
      same g = let at : n ≡ suc i = omega (arith, g, h) in rw at e

and_false : (a b : Bool) → b ≡ false → (a && b) ≡ false
and_false true b h = h
and_false false b h = refl

pub each_below_false : (n i : ℕ) (p : ℕ → Bool) → i < n → p i ≡ false → each_below n p ≡ false
each_below_false zero i p h e = absurd (omega (arith, h))
each_below_false (suc n) i p h e = ⊎_elim (λ g. ap (λ b. b && p n) (each_below_false n i p g e)) last (cases_lt i n) where
  last : n ≤ i → (each_below n p && p n) ≡ false
  last g = let same : n ≡ i = omega (arith, g, h) in and_false (each_below n p) (p n) (rw same e)

pub each_below_at : (n : ℕ) (p : ℕ → Bool) → each_below n p ≡ true → (i : ℕ) → i < n → p i ≡ true
each_below_at n p h i within = by (p i) refl where
  by : (b : Bool) → p i ≡ b → b ≡ true
  by true e = refl
  by false e = let no = each_below_false n i p within e in cc

pub each_below_all : (n : ℕ) (p : ℕ → Bool) → ((i : ℕ) → p i ≡ true) → each_below n p ≡ true
each_below_all zero p h = refl
each_below_all (suc n) p h = rw (each_below_all n p h) (h n)

-- a slot that comes later has what it had
pub later_slot : {X : Type 0} (d : X) (f : ℕ → X → X) (i : ℕ) (xs ys : List X) → ys ≡ done d f i xs → get_or ys i d ≡ get_or xs i d
later_slot d f i xs ys e = ap (λ zs. get_or zs i d) e ∙ done_above d f i i xs d (omega arith)

-- ---- items that are left of a list

module _ {X : Type 0} (i : ℕ) (xs rest : List X) (x : X) (e : drop i xs ≡ x ∷ rest) where
  pub left_within : i < length xs
  left_within = let left : length (drop i xs) ≡ suc (length rest) = ap length e in omega (arith, left, length-drop i xs)

  pub left_at : (d : X) → get_or xs i d ≡ x
  left_at d = let split = sym (drop_more xs i d left_within) ∙ e in cc

  pub left_after : drop (i + 1) xs ≡ rest
  left_after = let split = sym (drop_more xs i x left_within) ∙ e in cc

pub same_globals : (g h : Globals) → g.scalars ≡ h.scalars → g.arrays ≡ h.arrays → g ≡ h
same_globals g h e f = λ i. record { scalars = e i; arrays = f i }
