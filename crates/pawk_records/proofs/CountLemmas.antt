-- How many records begin in a part of the bytes.
use Rattle.std.proofs.Common.{◌≡◌, inl, inr, ℕ, zero, suc, ◌+◌, ◌-◌, ◌<◌, ◌≤◌, Bool, true, false, cond, eqb, List, [], ◌∷◌, length, length-append, take, drop, get_or, refl, ap, arith, sym, ◌∙◌}
use Rattle.std.proofs.lemmas.Bool.Decides.{eqb_tells}
use Rattle.std.proofs.lemmas.List.{drop_more}
use mir.Val.{bool_byte}
use Rattle.std.proofs.lemmas.List.Sums.{sum_by-cons}
use Rattle.std.specs.List.{count_by}
use Rattle.memchr.specs.Find.{is_byte}
use Rattle.pawk_records.specs.Begins.{is_after, begins_at, places_where}
use Rattle.pawk_records.proofs.PlaceLemmas.{places_where-append}

length_cond : (v : Bool) (x : ℕ) (l : List ℕ) → length (cond v (x ∷ l) l) ≡ cond v 1 0 + length l
length_cond true x l = omega arith
length_cond false x l = omega arith

module _ (e : ℕ) (s : List ℕ) where
  -- after each separator a line begins
  pub count_after_bytes : (n i : ℕ) → i + n ≤ length s → length (places_where (is_after e s) (i + 1) n) ≡ count_by (is_byte e) (take n (drop i s))
  count_after_bytes zero i le = refl
  count_after_bytes (suc n) i le =
      let here : drop i s ≡ get_or s i 0 ∷ drop (i + 1) s = drop_more s i 0 (omega arith) in
      let flag : is_after e s (i + 1) ≡ eqb (get_or s i 0) e = elim (eqb_tells (i + 1) 0) [
        | inl y ↦ absurd (omega (arith, y.1))
        | inr f ↦ rw f.0 (ap (λ k. eqb (get_or s k 0) e) (let z : i + 1 - 1 ≡ i = omega arith in z))
      ] in
      let later = count_after_bytes n (i + 1) (omega arith) in
      let counts = sum_by-cons (λ y. cond (is_byte e y) 1 0) (get_or s i 0) (take n (drop (i + 1) s)) in
      let front = length_cond (is_after e s (i + 1)) (i + 1) (places_where (is_after e s) (i + 1 + 1) n) in
      front ∙ ap (λ v. cond v 1 0 + length (places_where (is_after e s) (i + 1 + 1) n)) flag
      ∙ ap (λ m. cond (eqb (get_or s i 0) e) 1 0 + m) later
      ∙ sym (ap (λ l. count_by (is_byte e) (take (suc n) l)) here ∙ counts)

-- the places from one on: it, and those after it
pub count_place : (test : ℕ → Bool) (end from : ℕ) → from < end → length (places_where test from (end - from)) ≡ cond (test from) 1 0 + length (places_where test (from + 1) (end - (from + 1)))
count_place test end from lt =
    let n : end - from ≡ suc (end - (from + 1)) = omega arith in
    ap (λ k. length (places_where test from k)) n ∙ length_cond (test from) from (places_where test (from + 1) (end - (from + 1)))

-- the byte of a test: one where it holds, and else none
pub flag_counts : (v w : Bool) (r : ℕ) → r ≡ bool_byte v → v ≡ w → (r ≡ cond w 1 0) × (r ≤ 1)
flag_counts true true r is same = (is, omega (arith, is))
flag_counts false false r is same = (is, omega (arith, is))
flag_counts true false r is same = cc
flag_counts false true r is same = cc

-- the places up to one, and those from there on
pub count_parts : (test : ℕ → Bool) (from size end : ℕ) → from + size ≤ end → length (places_where test from (end - from)) ≡ length (places_where test from (from + size - from)) + length (places_where test (from + size) (end - (from + size)))
count_parts test from size end le =
    let n : end - from ≡ size + (end - (from + size)) = omega arith in
    let m : from + size - from ≡ size = omega arith in
    ap (λ k. length (places_where test from k)) n ∙ ap length (places_where-append test from size (end - (from + size)))
    ∙ length-append (places_where test from size) (places_where test (from + size) (end - (from + size)))
    ∙ ap (λ k. length (places_where test from k) + length (places_where test (from + size) (end - (from + size)))) (sym m)

-- the lines that begin in a part of the bytes
module _ (e : ℕ) (s : List ℕ) where
  pub count_from_start : (end : ℕ) → 0 < end → end ≤ length s → length (places_where (begins_at (e ∷ []) s) 0 (end - 0)) ≡ 1 + count_by (is_byte e) (take (end - 1) s)
  count_from_start end some le =
      let n : end - 0 ≡ suc (end - 1) = omega arith in
      let whole : length (places_where (is_after e s) 0 (end - 0)) ≡ length (0 ∷ places_where (is_after e s) (0 + 1) (end - 1)) = ap (λ k. length (places_where (is_after e s) 0 k)) n in
      omega (arith, whole, count_after_bytes e s (end - 1) 0 (omega arith))

  pub count_from_later : (start end : ℕ) → 0 < start → start ≤ end → end ≤ length s
      → length (places_where (begins_at (e ∷ []) s) start (end - start)) ≡ count_by (is_byte e) (take (end - 1 - (start - 1)) (drop (start - 1) s))
  count_from_later start end some up le =
      let p : start - 1 + 1 ≡ start = omega arith in
      let n : end - start ≡ end - 1 - (start - 1) = omega arith in
      ap (λ k. length (places_where (is_after e s) start k)) n
      ∙ ap (λ k. length (places_where (is_after e s) k (end - 1 - (start - 1)))) (sym p)
      ∙ count_after_bytes e s (end - 1 - (start - 1)) (start - 1) (omega arith)
