-- The bytes whose places pass a test are those from one place up to another.
use Rattle.std.proofs.Common.{◌≡◌, ℕ, zero, suc, ◌+◌, ◌-◌, ◌<◌, ◌≤◌, min, Bool, true, leb, ltb, ◌&&◌, ℤ, pos, negsuc, ◌+ℤ◌, List, [], ◌∷◌, length, take, drop, slice_range, refl, sym, ap, ◌∙◌, ⊎_elim, arith, length-drop}
use Rattle.std.specs.Prelude.{int_le, int_lt}
use Rattle.std.proofs.lemmas.Bool.{cases_lt, cond-true, cond-false, and_left, and_right, and_from, lt-leb, le-leb, lt-ltb, le-ltb}
use Rattle.std.proofs.lemmas.List.{take_all}
use Rattle.pawk_store.specs.Builtins.{bytes_where, is_from}
use Rattle.pawk_builtins.specs.PlaceViews.{before}

drop_nil : (n : ℕ) → drop {A = ℕ} n [] ≡ []
drop_nil zero = refl
drop_nil (suc n) = refl

take_nil : (n : ℕ) → take {A = ℕ} n [] ≡ []
take_nil zero = refl
take_nil (suc n) = refl

module _ (test : ℕ → Bool) (a b top : ℕ) (same : (p : ℕ) → p < top → test p ≡ (leb a p && ltb p b)) where
  abbrev Between : ℕ → List ℕ → Type 0
  Between place s = bytes_where test place s ≡ slice_range s (a - place) (b - place)

  early : (place x : ℕ) (s : List ℕ) → place < top → Between (suc place) s → place < a → Between place (x ∷ s)
  early place x s lt rest h =
      let e : a - place ≡ suc (a - suc place) = omega arith in
      let f : b - place - (a - place) ≡ b - suc place - (a - suc place) = omega arith in
      cond-false (test place) _ _ (same place lt ∙ and_left _ _ (lt-leb a place h)) ∙ (rest
      ∙ sym (ap (λ n. take n (drop (a - place) (x ∷ s))) f ∙ ap (λ n. take (b - suc place - (a - suc place)) (drop n (x ∷ s))) e))

  within : (place x : ℕ) (s : List ℕ) → place < top → Between (suc place) s → a ≤ place → place < b → Between place (x ∷ s)
  within place x s lt rest from h =
      let e : a - place ≡ 0 = omega arith in
      let f : b - place - (a - place) ≡ suc (b - suc place - (a - suc place)) = omega arith in
      let g : 0 ≡ a - suc place = omega arith in
      cond-true (test place) _ _ (same place lt ∙ and_from _ _ (le-leb a place from) (lt-ltb place b h)) ∙ (ap (λ t. x ∷ t) rest
      ∙ sym (ap (λ n. take n (drop (a - place) (x ∷ s))) f ∙ (ap (λ n. take (suc (b - suc place - (a - suc place))) (drop n (x ∷ s))) e
      ∙ ap (λ n. x ∷ take (b - suc place - (a - suc place)) (drop n s)) g)))

  late : (place x : ℕ) (s : List ℕ) → place < top → Between (suc place) s → b ≤ place → Between place (x ∷ s)
  late place x s lt rest h =
      let e : b - suc place - (a - suc place) ≡ 0 = omega arith in
      let f : b - place - (a - place) ≡ 0 = omega arith in
      cond-false (test place) _ _ (same place lt ∙ and_right _ _ (le-ltb place b h)) ∙ (rest
      ∙ (ap (λ n. take n (drop (a - suc place) s)) e ∙ sym (ap (λ n. take n (drop (a - place) (x ∷ s))) f)))

  bytes_between : (place : ℕ) (s : List ℕ) → place + length s ≤ top → Between place s
  bytes_between place [] w = sym (ap (take (b - place - (a - place))) (drop_nil (a - place)) ∙ take_nil (b - place - (a - place)))
  bytes_between place (x ∷ s) w =
      let lt : place < top = omega arith in
      let rest = bytes_between (suc place) s (omega arith) in
      ⊎_elim (early place x s lt rest)
      (λ from. ⊎_elim (within place x s lt rest from) (late place x s lt rest) (cases_lt place b)) (cases_lt place a)

-- a place before the first is as the one before it
abbrev natural : ℤ → ℕ
natural (pos n) = n
natural (negsuc n) = 0

before_is : (z : ℤ) (count : ℕ) → before z count ≡ min (natural z - 1) count
before_is (pos n) count = refl
before_is (negsuc n) count = omega arith

least_is : (z : ℤ) (p : ℕ) → int_le z (pos p) ≡ leb (natural z) p
least_is (pos n) p = refl
least_is (negsuc n) p = sym (le-leb 0 p (omega arith))

below_is : (z : ℤ) (p : ℕ) → int_lt (pos p) z ≡ ltb p (natural z)
below_is (pos n) p = refl
below_is (negsuc n) p = sym (le-ltb p 0 (omega arith))

suffix_cut : (s : List ℕ) (n k : ℕ) → k ≡ min n (length s) → take (length s - k) (drop k s) ≡ slice_range s n (suc (length s) - 1)
suffix_cut s n k is = ⊎_elim
    (λ h. let e : k ≡ n = omega arith in let f : length s - n ≡ suc (length s) - 1 - n = omega arith in
    ap (λ k. take (length s - k) (drop k s)) e ∙ ap (λ m. take m (drop n s)) f)
    (λ h. let e : length s - k ≡ 0 = omega arith in let f : suc (length s) - 1 - n ≡ 0 = omega arith in
    ap (λ m. take m (drop k s)) e ∙ sym (ap (λ m. take m (drop n s)) f))
    (cases_lt n (length s))

pub suffix_is : (s : List ℕ) (from : ℤ) (k : ℕ) → k ≡ before from (length s) → take (length s - k) (drop k s) ≡ bytes_where (λ p. int_le from (pos p)) 1 s
suffix_is s from k is =
    suffix_cut s (natural from - 1) k (is ∙ before_is from (length s))
    ∙ sym (bytes_between (λ p. int_le from (pos p)) (natural from) (suc (length s)) (suc (length s))
    (λ p h. least_is from p ∙ sym (ap (λ x. leb (natural from) p && x) (lt-ltb p (suc (length s)) h) ∙ and_true (leb (natural from) p))) 1 s (omega arith))
  where
    and_true : (x : Bool) → (x && true) ≡ x
    and_true x = grind arith

part_is : (s : List ℕ) (from count : ℤ) → bytes_where (is_from from count) 1 s ≡ slice_range s (natural from - 1) (natural (from +ℤ count) - 1)
part_is s from count =
    bytes_between (is_from from count) (natural from) (natural (from +ℤ count)) (suc (length s))
    (λ p h. ap (λ x. x && int_lt (pos p) (from +ℤ count)) (least_is from p) ∙ ap (λ y. leb (natural from) p && y) (below_is (from +ℤ count) p))
    1 s (omega arith)

part_cut : (s : List ℕ) (a b i j : ℕ) → i ≡ min a (length s) → j ≡ min b (length s) → i < j → take (j - i) (drop i s) ≡ slice_range s a b
part_cut s a b i j is js lt =
    let e : i ≡ a = omega arith in
    ap (λ i. take (j - i) (drop i s)) e ∙ ⊎_elim
    (λ h. let f : j ≡ b = omega arith in ap (λ j. take (j - a) (drop a s)) f)
    (λ h. take_all (j - a) (drop a s) (omega (arith, length-drop a s)) ∙ sym (take_all (b - a) (drop a s) (omega (arith, length-drop a s))))
    (cases_lt b (length s))

none_cut : (s : List ℕ) (a b i j : ℕ) → i ≡ min a (length s) → j ≡ min b (length s) → j ≤ i → [] ≡ slice_range s a b
none_cut s a b i j is js le = ⊎_elim
    (λ h. let f : b - a ≡ 0 = omega arith in sym (ap (λ n. take n (drop a s)) f))
    (λ h. sym (ap (take (b - a)) (sym (take_all 0 (drop a s) (omega (arith, length-drop a s)))) ∙ take_nil (b - a)))
    (cases_lt a (length s))

pub substring_is : (s : List ℕ) (from count : ℤ) (i j : ℕ) → i ≡ before from (length s) → j ≡ before (from +ℤ count) (length s) → i < j → take (j - i) (drop i s) ≡ bytes_where (is_from from count) 1 s
substring_is s from count i j is js lt =
    part_cut s _ _ i j (is ∙ before_is from (length s)) (js ∙ before_is (from +ℤ count) (length s)) lt ∙ sym (part_is s from count)

pub substring_none : (s : List ℕ) (from count : ℤ) (i j : ℕ) → i ≡ before from (length s) → j ≡ before (from +ℤ count) (length s) → j ≤ i → [] ≡ bytes_where (is_from from count) 1 s
substring_none s from count i j is js le =
    none_cut s _ _ i j (is ∙ before_is from (length s)) (js ∙ before_is (from +ℤ count) (length s)) le ∙ sym (part_is s from count)
