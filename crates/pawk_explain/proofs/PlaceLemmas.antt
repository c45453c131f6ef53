-- Where the bytes of a text are in the file that it was read from.
use Rattle.std.proofs.Common.{◌≡◌, ◌++◌, ℕ, zero, suc, ◌+◌, ◌<◌, ◌≤◌, Bool, true, false, List, [], ◌∷◌, length, ap, ◌∙◌, refl, arith, zero-add, cond, slice_get, if◌then◌else◌}
use Rattle.std.specs.Prelude.{nat_lt, count_by}
use Rattle.std.proofs.lemmas.Bool.{le-ltb, lt-ltb}
use Rattle.std.proofs.lemmas.List.Sums.{sum_by-cons, sum_by-append}
use Rattle.pawk_explain.specs.Lines.{is_left_out, lines_as_lf, omissions}

-- how many of the places lie before m
abbrev pub count_below : ℕ → List ℕ → ℕ
count_below m places = count_by (λ d. nat_lt d m) places

-- the count with one place more
pub count_below-cons : (m n : ℕ) (places : List ℕ) (t : Bool) → nat_lt n m ≡ t
    → count_below m (n ∷ places) ≡ cond t 1 0 + count_below m places
count_below-cons m n places t e =
    sum_by-cons (λ d. cond (nat_lt d m) 1 0) n places ∙ ap (λ b. cond b 1 0 + count_below m places) e

-- no carriage return is left out before the first place
pub none_below : (m n : ℕ) (s : List ℕ) → m ≤ n → count_below m (omissions n s) ≡ 0
none_below m n [] h = refl
none_below m n (b ∷ s) h =
    elim (is_left_out b s) as (λ t. count_below m (if t then n ∷ omissions n s else omissions (n + 1) s) ≡ 0) [
      | true ↦ count_below-cons m n (omissions n s) false (le-ltb n m h) ∙ (zero-add _ ∙ none_below m n s h)
      | false ↦ none_below m (n + 1) s (omega arith)
    ]

-- an element after the first
pub slice_get-later : (b : ℕ) (s : List ℕ) (i j : ℕ) → i ≡ suc j → slice_get (b ∷ s) i ≡ slice_get s j
slice_get-later b s i j e = rw e refl

-- the first element
pub slice_get-first : (b : ℕ) (s : List ℕ) (i : ℕ) → i ≡ 0 → slice_get (b ∷ s) i ≡ slice_get (b ∷ s) 0
slice_get-first b s i e = rw e refl

-- how many carriage returns are left out before a place, after one that is
pub one_more : (m n : ℕ) (s : List ℕ) → n < m → count_below m (n ∷ omissions n s) ≡ 1 + count_below m (omissions n s)
one_more m n s h = count_below-cons m n (omissions n s) true (lt-ltb n m h)

-- the i-th byte of the text, in the file
pub byte_at_place : (m n i : ℕ) (s : List ℕ) → m ≡ n + i + 1 → i < length (lines_as_lf s)
    → slice_get s (i + count_below m (omissions n s)) ≡ slice_get (lines_as_lf s) i
byte_at_place m n i [] e = λ h. absurd (omega arith)
byte_at_place m n zero (b ∷ s) e =
    elim (is_left_out b s) as (λ t. 0 < length (if t then lines_as_lf s else b ∷ lines_as_lf s)
    → slice_get (b ∷ s) (0 + count_below m (if t then n ∷ omissions n s else omissions (n + 1) s))
    ≡ slice_get (if t then lines_as_lf s else b ∷ lines_as_lf s) 0) [
      | true ↦ λ h. let more = one_more m n s (omega arith) in
          slice_get-later b s _ (0 + count_below m (omissions n s)) (omega arith) ∙ byte_at_place m n zero s e h
      | false ↦ λ h. let none = none_below m (n + 1) s (omega arith) in slice_get-first b s _ (omega arith)
    ]
byte_at_place m n (suc i) (b ∷ s) e =
    elim (is_left_out b s) as (λ t. suc i < length (if t then lines_as_lf s else b ∷ lines_as_lf s)
    → slice_get (b ∷ s) (suc i + count_below m (if t then n ∷ omissions n s else omissions (n + 1) s))
    ≡ slice_get (if t then lines_as_lf s else b ∷ lines_as_lf s) (suc i)) [
      | true ↦ λ h. let more = one_more m n s (omega arith) in
          slice_get-later b s _ (suc i + count_below m (omissions n s)) (omega arith) ∙ byte_at_place m n (suc i) s e h
      | false ↦ λ h. slice_get-later b s _ (i + count_below m (omissions (n + 1) s)) (omega arith)
          ∙ byte_at_place m (n + 1) i s (omega arith) (omega arith)
    ]

-- two places that are one
pub slice_get-same : (s : List ℕ) (i j : ℕ) → i ≡ j → slice_get s i ≡ slice_get s j
slice_get-same s i j e = ap (slice_get s) e

-- an element of the first of two lists
pub slice_get-front : (s t : List ℕ) (i : ℕ) → i < length s → slice_get (s ++ t) i ≡ slice_get s i
slice_get-front [] t i = λ h. absurd (omega arith)
slice_get-front (b ∷ s) t zero = λ h. refl
slice_get-front (b ∷ s) t (suc i) = λ h. slice_get-front s t i (omega arith)

-- an element of the second of two lists
pub slice_get-after : (s t : List ℕ) (i j : ℕ) → i ≡ length s + j → slice_get (s ++ t) i ≡ slice_get t j
slice_get-after [] t i j = λ e. slice_get-same t i j (omega arith)
slice_get-after (b ∷ s) t i j = λ e.
    slice_get-later b (s ++ t) i (length s + j) (omega arith) ∙ slice_get-after s t (length s + j) j refl

-- the count in two lists
pub count_below-append : (m : ℕ) (s t : List ℕ) → count_below m (s ++ t) ≡ count_below m s + count_below m t
count_below-append m s t = sum_by-append (λ d. cond (nat_lt d m) 1 0) s t

-- every byte is read or left out
pub length-lines : (n : ℕ) (s : List ℕ) → length s ≡ length (lines_as_lf s) + length (omissions n s)
length-lines n [] = refl
length-lines n (b ∷ s) =
    elim (is_left_out b s) as (λ t. length (b ∷ s) ≡ length (if t then lines_as_lf s else b ∷ lines_as_lf s)
    + length (if t then n ∷ omissions n s else omissions (n + 1) s)) [
      | true ↦ let e = length-lines n s in omega arith
      | false ↦ let e = length-lines (n + 1) s in omega arith
    ]

-- all that is left out lies before what follows the text
pub all_below : (m n : ℕ) (s : List ℕ) → n + length (lines_as_lf s) < m
    → count_below m (omissions n s) ≡ length (omissions n s)
all_below m n [] = λ h. refl
all_below m n (b ∷ s) =
    elim (is_left_out b s) as (λ t. n + length (if t then lines_as_lf s else b ∷ lines_as_lf s) < m
    → count_below m (if t then n ∷ omissions n s else omissions (n + 1) s)
    ≡ length (if t then n ∷ omissions n s else omissions (n + 1) s)) [
      | true ↦ λ h. let more = one_more m n s (omega arith) in let e = all_below m n s h in omega arith
      | false ↦ λ h. all_below m (n + 1) s (omega arith)
    ]
