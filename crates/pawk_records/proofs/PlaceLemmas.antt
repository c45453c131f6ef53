-- Places that pass a test.
use Rattle.std.proofs.Common.{◌≡◌, ℕ, zero, suc, ◌+◌, ◌-◌, ◌<◌, ◌≤◌, Bool, true, false, cond, List, [], ◌∷◌, ◌++◌, length, get_or, refl, ap, arith, sym, ◌∙◌, subst}
use Rattle.std.proofs.lemmas.Bool.{false≢true}
use Rattle.std.specs.List.{Contains}
use Rattle.std.specs.List.Sorted.{IsStrictlyIncreasing}
use Rattle.pawk_records.specs.Begins.{places_where}

-- no place from i up to j passes
abbrev pub NonePass : (ℕ → Bool) → ℕ → ℕ → Type 0
NonePass test i j = (k : ℕ) → i ≤ k → k < j → test k ≡ false

module _ (test : ℕ → Bool) where
  pub places_where-append : (i m n : ℕ) → places_where test i (m + n) ≡ places_where test i m ++ places_where test (i + m) n
  places_where-append i zero n =
      let a : zero + n ≡ n = omega arith in
      let b : i ≡ i + zero = omega arith in
      ap (places_where test i) a ∙ ap (λ j. places_where test j n) b
  places_where-append i (suc m) n =
      let a : suc m + n ≡ suc (m + n) = omega arith in
      let b : i + 1 + m ≡ i + suc m = omega arith in
      let later : places_where test (i + 1) (m + n) ≡ places_where test (i + 1) m ++ places_where test (i + suc m) n =
      places_where-append (i + 1) m n ∙ ap (λ j. places_where test (i + 1) m ++ places_where test j n) b in
      ap (places_where test i) a
      ∙ elim (test i) as (λ v. cond v (i ∷ places_where test (i + 1) (m + n)) (places_where test (i + 1) (m + n)) ≡ cond v (i ∷ places_where test (i + 1) m) (places_where test (i + 1) m) ++ places_where test (i + suc m) n) [
        | true ↦ ap (λ l. i ∷ l) later
        | false ↦ later
      ]

  pub places_where-none : (i n : ℕ) → NonePass test i (i + n) → places_where test i n ≡ []
  places_where-none i zero h = refl
  places_where-none i (suc n) h = rw (h i (omega arith) (omega arith)) (places_where-none (i + 1) n (λ k le lt. h k (omega arith) (omega arith)))

  -- the first place that passes, and those after it
  pub places_where-first : (i j n : ℕ) → i ≤ j → j < i + n → NonePass test i j → test j ≡ true → places_where test i n ≡ j ∷ places_where test (j + 1) (i + n - (j + 1))
  places_where-first i j n le lt none here =
      let m = j - i in
      let r = i + n - (j + 1) in
      let parts : n ≡ m + suc r = omega arith in
      let at : i + m ≡ j = omega arith in
      let skip : places_where test i m ≡ [] = places_where-none i m (λ k low high. none k low (omega arith)) in
      ap (places_where test i) parts ∙ places_where-append i m (suc r) ∙ ap (λ l. l ++ places_where test (i + m) (suc r)) skip
      ∙ ap (λ p. places_where test p (suc r)) at ∙ rw here refl

  pub length-places_where : (i n : ℕ) → length (places_where test i n) ≤ n
  length-places_where i zero = omega arith
  length-places_where i (suc n) =
      let more = length-places_where (i + 1) n in
      elim (test i) as (λ v. length (cond v (i ∷ places_where test (i + 1) n) (places_where test (i + 1) n)) ≤ suc n) [
        | true ↦ omega arith
        | false ↦ omega arith
      ]

  -- what each of them is
  pub passes_at : (i n k d : ℕ) → k < length (places_where test i n) → (i ≤ get_or (places_where test i n) k d) × (get_or (places_where test i n) k d < i + n) × (test (get_or (places_where test i n) k d) ≡ true)
  passes_at i zero k d lt = absurd (omega arith)
  passes_at i (suc n) k d lt =
      let l = places_where test (i + 1) n in
      let P : ℕ → Type 0 = λ p. (i ≤ p) × (p < i + suc n) × (test p ≡ true) in
      let later : (j : ℕ) → j < length l → P (get_or l j d) = λ j h. (let p = passes_at (i + 1) n j d h in (omega (arith, p.0), omega (arith, p.1), p.2)) in
      let Q : Bool → Type 0 = λ v. (j : ℕ) → j < length (cond v (i ∷ l) l) → P (get_or (cond v (i ∷ l) l) j d) in
      let all : Q (test i) = elim (test i) as (λ v. (test i ≡ v) → Q v) [
        | true ↦ (λ e. λ j h. first i l d P (omega arith, omega arith, e) later j h)
        | false ↦ (λ e. later)
      ] refl in
      all k lt
    where
      first : (x : ℕ) (l : List ℕ) (d : ℕ) (P : ℕ → Type 0) → P x → ((j : ℕ) → j < length l → P (get_or l j d)) → (j : ℕ) → j < length (x ∷ l) → P (get_or (x ∷ l) j d)
      first x l d P here there zero h = here
      first x l d P here there (suc j) h = there j (omega arith)

  -- they rise
  pub places_where-rising : (i n : ℕ) → IsStrictlyIncreasing (places_where test i n)
  places_where-rising i zero = λ k lt. absurd (omega arith)
  places_where-rising i (suc n) =
      let l = places_where test (i + 1) n in
      elim (test i) as (λ v. IsStrictlyIncreasing (cond v (i ∷ l) l)) [
        | true ↦ onto i l (λ d lt. (let p = passes_at (i + 1) n 0 d lt in omega (arith, p.0))) (places_where-rising (i + 1) n)
        | false ↦ places_where-rising (i + 1) n
      ]
    where
      onto : (x : ℕ) (l : List ℕ) → ((d : ℕ) → 0 < length l → x < get_or l 0 d) → IsStrictlyIncreasing l → IsStrictlyIncreasing (x ∷ l)
      onto x l low up zero lt = low 0 (omega arith)
      onto x l low up (suc k) lt =
          let next : suc k + 1 ≡ suc (k + 1) = omega arith in
          subst (λ j. get_or l k 0 < get_or (x ∷ l) j 0) (sym next) (up k (omega arith))

  -- each place that passes is among them
  pub contains_place : (i n p : ℕ) → i ≤ p → p < i + n → test p ≡ true → Contains (places_where test i n) p
  contains_place i zero p le lt is = absurd (omega arith)
  contains_place i (suc n) p le lt is =
      let l = places_where test (i + 1) n in
      let later : i + 1 ≤ p → Contains l p = λ low. contains_place (i + 1) n p low (omega arith) is in
      elim (test i) as (λ v. (test i ≡ v) → Contains (cond v (i ∷ l) l) p) [
        | true ↦ (λ e. at_or_after i l p le later)
        | false ↦ (λ e. later (past i p le e is))
      ] refl
    where
      at_or_after : (x : ℕ) (l : List ℕ) (p : ℕ) → x ≤ p → (x + 1 ≤ p → Contains l p) → Contains (x ∷ l) p
      at_or_after x l p le later = from_gap (p - x) x l p refl le later
        where
          from_gap : (g x : ℕ) (l : List ℕ) (p : ℕ) → g ≡ p - x → x ≤ p → (x + 1 ≤ p → Contains l p) → Contains (x ∷ l) p
          from_gap zero x l p e le later = (0, omega arith, omega arith)
          from_gap (suc g) x l p e le later = let c = later (omega arith) in (suc c.0, omega (arith, c.1), c.2)

      past : (x p : ℕ) → x ≤ p → test x ≡ false → test p ≡ true → x + 1 ≤ p
      past x p le fails holds = from_gap (p - x) x p refl le fails holds
        where
          from_gap : (g x p : ℕ) → g ≡ p - x → x ≤ p → test x ≡ false → test p ≡ true → x + 1 ≤ p
          from_gap zero x p e le fails holds = absurd (false≢true (sym fails ∙ ap test (let same : x ≡ p = omega arith in same) ∙ holds))
          from_gap (suc g) x p e le fails holds = omega arith

-- tests that agree on the places give the same
pub places_where-same : (f g : ℕ → Bool) (i n : ℕ) → ((k : ℕ) → i ≤ k → k < i + n → f k ≡ g k) → places_where f i n ≡ places_where g i n
places_where-same f g i zero h = refl
places_where-same f g i (suc n) h =
    let later = places_where-same f g (i + 1) n (λ k le lt. h k (omega arith) (omega arith)) in
    rw (h i (omega arith) (omega arith), later) refl
