-- Where words begin and end, as bits.
use Rattle.std.proofs.Common.{◌≡◌, ℕ, zero, suc, ◌+◌, ◌*◌, ◌/◌, ◌%◌, ◌^◌, ◌-◌, ◌<◌, ◌≤◌, min, Bool, true, false, not, cond, bit_and, List, [], ◌∷◌, ◌++◌, map, length, drop, take, append_assoc, Some, None, inl, inr, refl, ap, ap₂, arith, sym, ◌∙◌, pow-add, length-append, length-drop}
use Rattle.std.proofs.lemmas.List.{drop-append-le, drop-drop, drop-take, length-take}
use Rattle.std.specs.declared.ops.Range.{Range}
use Rattle.std.specs.List.{prefix_len}
use native.Mathlib.Nat.{eq-zero-or-pos, pow-suc}
use lib.Bits.{bit_xor, differ, xor_step, and_step, and_self}
use lib.Count.{count_trailing_zeros, under}
use Rattle.pawk_value.specs.Bytes.{is_blank}
use Rattle.pawk_fields.specs.Blocks.{blank_bits, block_from}
use Rattle.pawk_fields.specs.Fields.{is_not_blank}
use Rattle.pawk_fields.specs.FieldSeparator.{range_of}
use Rattle.pawk_fields.specs.Splits.{words_from}
use Rattle.pawk_fields.proofs.SplitLemmas.{first_word, some_word}

-- ---- the lowest bit of a number

odd_half : (m : ℕ) → (1 + 2 * m) / 2 ≡ m
odd_half m = omega arith

odd_rest : (m : ℕ) → (1 + 2 * m) % 2 ≡ 1
odd_rest m = omega arith

even_half : (m : ℕ) → (2 * m) / 2 ≡ m
even_half m = omega arith

even_rest : (m : ℕ) → (2 * m) % 2 ≡ 0
even_rest m = omega arith

twice : (j n : ℕ) → 2 ^ suc j * n ≡ 2 * (2 ^ j * n)
twice j n = ap (λ k. k * n) (pow-suc 2 j) ∙ omega arith

some_power : (j m : ℕ) → 0 < 2 ^ j * (1 + 2 * m)
some_power zero m = omega arith
some_power (suc j) m = omega (arith, some_power j m, twice j (1 + 2 * m))

pub lowest : (k j m : ℕ) → j < k → count_trailing_zeros k (2 ^ j * (1 + 2 * m)) ≡ j
unfolding count_trailing_zeros
lowest zero j m lt = absurd (omega arith)
lowest (suc k) zero m lt =
    let one : 2 ^ zero * (1 + 2 * m) ≡ 1 + 2 * m = omega arith in
    ap (λ n. under (n % 2) (count_trailing_zeros k (n / 2))) one ∙ ap (λ d. under d (count_trailing_zeros k ((1 + 2 * m) / 2))) (odd_rest m)
lowest (suc k) (suc j) m lt =
    let rest = 2 ^ j * (1 + 2 * m) in
    ap (λ n. under (n % 2) (count_trailing_zeros k (n / 2))) (twice j (1 + 2 * m))
    ∙ ap₂ (λ d n. under d (count_trailing_zeros k n)) (even_rest rest) (even_half rest)
    ∙ ap suc (lowest k j m (omega arith))

-- `n & (n - 1)` clears it
pub cleared : (j m : ℕ) → bit_and (2 ^ j * (1 + 2 * m)) (2 ^ j * (1 + 2 * m) - 1) ≡ 2 ^ (j + 1) * m
cleared zero m =
    let n : 2 ^ zero * (1 + 2 * m) ≡ 1 + 2 * m = omega arith in
    let less : (1 + 2 * m) - 1 ≡ 2 * m = omega arith in
    let out : m * 2 + min 1 0 ≡ 2 ^ (zero + 1) * m = omega arith in
    ap (λ n. bit_and n (n - 1)) n ∙ ap (bit_and (1 + 2 * m)) less ∙ and_step (1 + 2 * m) (2 * m)
    ∙ ap₂ (λ a b. bit_and a b * 2 + min ((1 + 2 * m) % 2) ((2 * m) % 2)) (odd_half m) (even_half m)
    ∙ ap₂ (λ a b. bit_and m m * 2 + min a b) (odd_rest m) (even_rest m)
    ∙ ap (λ k. k * 2 + min 1 0) (and_self m) ∙ out
cleared (suc j) m =
    let rest = 2 ^ j * (1 + 2 * m) in
    let low = rest - 1 in
    let less : 2 * rest - 1 ≡ 1 + 2 * low = omega (arith, some_power j m) in
    let next : suc j + 1 ≡ suc (j + 1) = omega arith in
    let out : (2 ^ (j + 1) * m) * 2 + min 0 1 ≡ 2 ^ (suc j + 1) * m = omega arith ∙ sym (twice (j + 1) m) ∙ ap (λ k. 2 ^ k * m) (sym next) in
    ap (λ n. bit_and n (n - 1)) (twice j (1 + 2 * m)) ∙ ap (bit_and (2 * rest)) less ∙ and_step (2 * rest) (1 + 2 * low)
    ∙ ap₂ (λ a b. bit_and a b * 2 + min ((2 * rest) % 2) ((1 + 2 * low) % 2)) (even_half rest) (odd_half low)
    ∙ ap₂ (λ a b. bit_and rest low * 2 + min a b) (even_rest rest) (odd_rest low)
    ∙ ap (λ k. k * 2 + min 0 1) (cleared j m) ∙ out

-- ---- changes

abbrev other : Bool → Bool → Bool
other true b = not b
other false b = b

-- a bit for each byte that is a blank where the one before it is none, or the other way round, and one for the byte
-- after them, which counts as no blank
abbrev pub changes : Bool → List ℕ → ℕ
changes a [] = cond a 1 0
changes a (b ∷ s) = cond (other a (is_blank b)) 1 0 + 2 * changes (is_blank b) s

differ_is : (p q : Bool) → differ (cond p 1 0) (cond q 1 0) ≡ cond (other q p) 1 0
differ_is true true = refl
differ_is true false = refl
differ_is false true = refl
differ_is false false = refl

bit_half : (p : Bool) (m : ℕ) → (cond p 1 0 + 2 * m) / 2 ≡ m
bit_half true m = omega arith
bit_half false m = omega arith

bit_rest : (p : Bool) (m : ℕ) → (cond p 1 0 + 2 * m) % 2 ≡ cond p 1 0
bit_rest true m = omega arith
bit_rest false m = omega arith

xor_bits : (p q : Bool) (m n : ℕ) → bit_xor (cond p 1 0 + 2 * m) (cond q 1 0 + 2 * n) ≡ cond (other q p) 1 0 + 2 * bit_xor m n
xor_bits p q m n =
    let turn : bit_xor m n * 2 + cond (other q p) 1 0 ≡ cond (other q p) 1 0 + 2 * bit_xor m n = omega arith in
    xor_step (cond p 1 0 + 2 * m) (cond q 1 0 + 2 * n)
    ∙ ap₂ (λ a b. bit_xor a b * 2 + differ ((cond p 1 0 + 2 * m) % 2) ((cond q 1 0 + 2 * n) % 2)) (bit_half p m) (bit_half q n)
    ∙ ap₂ (λ a b. bit_xor m n * 2 + differ a b) (bit_rest p m) (bit_rest q n)
    ∙ ap (λ d. bit_xor m n * 2 + d) (differ_is p q) ∙ turn

-- they are computed from the blanks
pub changes_are : (a : Bool) (s : List ℕ) → bit_xor (blank_bits s) (cond a 1 0 + 2 * blank_bits s) ≡ changes a s
changes_are true [] = refl
changes_are false [] = refl
changes_are a (b ∷ s) = xor_bits (is_blank b) a (blank_bits s) (cond (is_blank b) 1 0 + 2 * blank_bits s) ∙ ap (λ n. cond (other a (is_blank b)) 1 0 + 2 * n) (changes_are (is_blank b) s)

pub changes_here : (s : List ℕ) (place blanks : ℕ) → blanks ≡ blank_bits (block_from s place) → bit_xor blanks (blanks + blanks + 1) ≡ 2 ^ (place - place) * changes true (take (32 - (place - place)) (drop place s ++ 32 ∷ []))
changes_here s place blanks is =
    let all = block_from s place in
    let none : place - place ≡ 0 = omega arith in
    let double : blanks + blanks + 1 ≡ 1 + 2 * blank_bits all = omega (arith, is) in
    let one : changes true all ≡ 2 ^ 0 * changes true all = omega arith in
    ap₂ bit_xor is double ∙ changes_are true all ∙ one ∙ ap (λ k. 2 ^ k * changes true (take (32 - k) (drop place s ++ 32 ∷ []))) (sym none)

-- how many blanks bytes begin with, and how many that are none
abbrev pub gap : List ℕ → ℕ
gap [] = 0
gap (b ∷ s) = cond (is_blank b) (suc (gap s)) 0

abbrev pub run : List ℕ → ℕ
run [] = 0
run (b ∷ s) = cond (is_blank b) 0 (suc (run s))

-- what is left of bytes once a word has begun
abbrev pub begun : List ℕ → List ℕ
begun s = drop (suc (gap s)) s

gap-le : (s : List ℕ) → gap s ≤ length s
gap-le [] = omega arith
gap-le (b ∷ s) =
    let more = gap-le s in
    elim (is_blank b) as (λ v. cond v (suc (gap s)) 0 ≤ length (b ∷ s)) [ true ↦ omega arith | false ↦ omega arith ]

-- the lowest change after blanks: a word begins
pub changes_gap : (s : List ℕ) → changes true s ≡ 2 ^ gap s * (1 + 2 * changes false (begun s))
changes_gap [] = refl
changes_gap (b ∷ s) =
    let more = changes_gap s in
    let double = twice (gap s) (1 + 2 * changes false (begun s)) in
    elim (is_blank b) as (λ v. cond (not v) 1 0 + 2 * changes v s ≡ 2 ^ cond v (suc (gap s)) 0 * (1 + 2 * changes false (drop (suc (cond v (suc (gap s)) 0)) (b ∷ s)))) [
      | true ↦ omega (arith, more, double)
      | false ↦ omega arith
    ]

-- the lowest change within a word, if there is one: it ends
pub changes_run : (s : List ℕ) → 0 < changes false s → changes false s ≡ 2 ^ run s * (1 + 2 * changes true (drop (suc (run s)) s))
changes_run [] some = absurd (omega arith)
changes_run (b ∷ s) some =
    elim (is_blank b) as (λ v. 0 < cond v 1 0 + 2 * changes v s → cond v 1 0 + 2 * changes v s ≡ 2 ^ cond v 0 (suc (run s)) * (1 + 2 * changes true (drop (suc (cond v 0 (suc (run s)))) (b ∷ s)))) [
      | true ↦ (λ h. omega arith)
      | false ↦ (λ h. let more = changes_run s (omega arith) in let double = twice (run s) (1 + 2 * changes true (drop (suc (run s)) s)) in omega (arith, more, double))
    ] some

-- a blank is there
pub run_stops : (s : List ℕ) → 0 < changes false s → (run s < length s) × (changes true (drop (run s) s) ≡ 2 * changes true (drop (suc (run s)) s))
run_stops [] some = absurd (omega arith)
run_stops (b ∷ s) some = by_first (λ h. run_stops s h) (is_blank b) refl
  where
    by_first : (0 < changes false s → (run s < length s) × (changes true (drop (run s) s) ≡ 2 * changes true (drop (suc (run s)) s))) → (v : Bool) → is_blank b ≡ v
        → (run (b ∷ s) < length (b ∷ s)) × (changes true (drop (run (b ∷ s)) (b ∷ s)) ≡ 2 * changes true (drop (suc (run (b ∷ s))) (b ∷ s)))
    by_first more true e =
        let here : changes true (b ∷ s) ≡ 2 * changes true s = ap (λ v. cond (not v) 1 0 + 2 * changes v s) e ∙ omega arith in
        (rw e (omega arith), rw e here)
    by_first more false e =
        let on : 0 < 0 + 2 * changes false s = rw e at some in
        let later = more (omega arith) in
        (rw e (omega (arith, later.0)), rw e later.1)

-- where no change follows no blank does
no_change : (s : List ℕ) → changes false s ≡ 0 → blank_bits s ≡ 0
no_change [] none = refl
no_change (b ∷ s) none =
    elim (is_blank b) as (λ v. cond v 1 0 + 2 * changes v s ≡ 0 → cond v 1 0 + 2 * blank_bits s ≡ 0) [
      | true ↦ (λ h. absurd (omega arith))
      | false ↦ (λ h. let more = no_change s (omega arith) in omega (arith, more))
    ] none

-- so the word that has begun is not the first byte's, if some byte is a blank
gap_some : (s : List ℕ) → 0 < blank_bits s → changes false (begun s) ≡ 0 → 0 < gap s
gap_some [] some none = absurd (omega arith)
gap_some (b ∷ s) some none =
    elim (is_blank b) as (λ v. 0 < cond v 1 0 + 2 * blank_bits s → changes false (drop (suc (cond v (suc (gap s)) 0)) (b ∷ s)) ≡ 0 → 0 < cond v (suc (gap s)) 0) [
      | true ↦ (λ h z. omega arith)
      | false ↦ (λ h z. absurd (let no = no_change s z in omega (arith, no)))
    ] some none

-- ---- words

-- n bytes of a text and a space after it
abbrev pub part : ℕ → List ℕ → List ℕ
part m t = take m (t ++ 32 ∷ [])

length-part : (m : ℕ) (t : List ℕ) → (length (part m t) ≤ m) × (length (part m t) ≤ length t + 1)
length-part m t =
    let size = length-take m (t ++ 32 ∷ []) in
    let all = length-append t (32 ∷ []) in
    (omega (arith, size, all), omega (arith, size, all))

drop-part : (m k : ℕ) (t : List ℕ) → k ≤ m → k ≤ length t → drop k (part m t) ≡ part (m - k) (drop k t)
drop-part m k t le within =
    let sum : m ≡ k + (m - k) = omega arith in
    ap (λ j. drop k (take j (t ++ 32 ∷ []))) sum ∙ drop-take k (m - k) (t ++ 32 ∷ []) ∙ ap (take (m - k)) (drop-append-le k t (32 ∷ []) within)

-- blanks go by
words_gap : (m : ℕ) (t : List ℕ) (at : ℕ) → words_from None at t ≡ words_from None (at + gap (part m t)) (drop (gap (part m t)) t)
words_gap zero t at = ap (λ p. words_from None p t) (let z : at ≡ at + 0 = omega arith in z)
words_gap (suc m) [] at = refl
words_gap (suc m) (b ∷ t) at = by_first (words_gap m t (at + 1)) (is_blank b) refl
  where
    by_first : words_from None (at + 1) t ≡ words_from None (at + 1 + gap (part m t)) (drop (gap (part m t)) t) → (v : Bool) → is_blank b ≡ v
        → words_from None at (b ∷ t) ≡ words_from None (at + gap (part (suc m) (b ∷ t))) (drop (gap (part (suc m) (b ∷ t))) (b ∷ t))
    by_first more true e =
        let g = gap (part m t) in
        let p : at + 1 + g ≡ at + suc g = omega arith in
        rw e (more ∙ ap (λ q. words_from None q (drop g t)) p)
    by_first more false e =
        let z : at + 0 ≡ at = omega arith in
        rw e (rw z (rw e refl))

-- a word that has begun goes on to a blank
word_goes : (m : ℕ) (t : List ℕ) (start at : ℕ) → 0 < changes false (part m t)
    → words_from (Some start) at t ≡ (start, at + run (part m t)) ∷ words_from None (at + run (part m t)) (drop (run (part m t)) t)
word_goes zero t start at some = absurd (omega arith)
word_goes (suc m) [] start at some = ap (λ p. (start, p) ∷ []) (let z : at ≡ at + 0 = omega arith in z)
word_goes (suc m) (b ∷ t) start at some = by_first (λ h. word_goes m t start (at + 1) h) (is_blank b) refl
  where
    by_first : (0 < changes false (part m t) → words_from (Some start) (at + 1) t ≡ (start, at + 1 + run (part m t)) ∷ words_from None (at + 1 + run (part m t)) (drop (run (part m t)) t)) → (v : Bool) → is_blank b ≡ v
        → words_from (Some start) at (b ∷ t) ≡ (start, at + run (part (suc m) (b ∷ t))) ∷ words_from None (at + run (part (suc m) (b ∷ t))) (drop (run (part (suc m) (b ∷ t))) (b ∷ t))
    by_first more true e =
        let z : at + 0 ≡ at = omega arith in
        rw e (rw z (rw e refl))
    by_first more false e =
        let r = run (part m t) in
        let p : at + 1 + r ≡ at + suc r = omega arith in
        let on : 0 < 0 + 2 * changes false (part m t) = rw e at some in
        rw e (more (omega arith) ∙ ap (λ q. (start, q) ∷ words_from None q (drop r t)) p)

-- a word that begins and ends within the part
word_in : (m : ℕ) (t : List ℕ) (at k : ℕ) → 0 < changes false (begun (part m t)) → k ≡ gap (part m t) + suc (run (begun (part m t)))
    → words_from None at t ≡ (at + gap (part m t), at + k) ∷ words_from None (at + k) (drop k t)
word_in zero t at k some is = absurd (omega arith)
word_in (suc m) [] at k some is = absurd (nothing m some)
  where
    nothing : (m : ℕ) → 0 < changes false (begun (part (suc m) [])) → ⊥
    nothing zero h = omega arith
    nothing (suc m) h = omega arith
word_in (suc m) (b ∷ t) at k some is = by_first (λ j h e. word_in m t (at + 1) j h e) (is_blank b) refl
  where
    by_first : ((j : ℕ) → 0 < changes false (begun (part m t)) → j ≡ gap (part m t) + suc (run (begun (part m t)))
        → words_from None (at + 1) t ≡ (at + 1 + gap (part m t), at + 1 + j) ∷ words_from None (at + 1 + j) (drop j t))
        → (v : Bool) → is_blank b ≡ v → words_from None at (b ∷ t) ≡ (at + gap (part (suc m) (b ∷ t)), at + k) ∷ words_from None (at + k) (drop k (b ∷ t))
    by_first more true e =
        let g = gap (part m t) in
        let all : k ≡ suc g + suc (run (begun (part m t))) = rw e at is in
        let later = k - 1 in
        let back : k ≡ suc later = omega (arith, all) in
        let p : at + 1 + g ≡ at + suc g = omega arith in
        let q : at + 1 + later ≡ at + suc later = omega arith in
        let on : 0 < changes false (begun (part m t)) = rw e at some in
        rw (e, back) (more later on (omega (arith, all)) ∙ ap₂ (λ x y. (x, y) ∷ words_from None y (drop later t)) p q)
    by_first more false e =
        let r = run (part m t) in
        let all : k ≡ 0 + suc r = rw e at is in
        let back : k ≡ suc r = omega (arith, all) in
        let z : at ≡ at + 0 = omega arith in
        let p : at + 1 + r ≡ at + suc r = omega arith in
        let on : 0 < changes false (part m t) = rw e at some in
        rw (e, back) (word_goes m t at (at + 1) on ∙ ap₂ (λ x y. (x, y) ∷ words_from None y (drop r t)) z p)

-- ---- a word that fills a block

-- it begins with the first byte
none_first : (t : List ℕ) → 0 < length t → blank_bits (part 32 t) ≡ 0 → prefix_len is_blank t ≡ 0
none_first [] some none = absurd (omega arith)
none_first (b ∷ t) some none =
    elim (is_blank b) as (λ v. cond v 1 0 + 2 * blank_bits (part 31 t) ≡ 0 → cond v (1 + prefix_len is_blank t) 0 ≡ 0) [ true ↦ (λ h. absurd (omega arith)) | false ↦ (λ h. refl) ] none

module _ (s : List ℕ) (place end : ℕ) (lt : place < length s) (none : blank_bits (block_from s place) ≡ 0) (is : end ≡ place + prefix_len is_not_blank (drop place s)) where
  some_here : 0 < length (drop place s)
  some_here = omega (arith, lt, length-drop place s)

  pub long_word : words_from None place (drop place s) ≡ (place, end) ∷ words_from None end (drop end s)
  long_word =
      first_word (drop place s) place (none_first (drop place s) some_here none) some_here
      ∙ ap (λ l. (place, place + prefix_len is_not_blank (drop place s)) ∷ words_from None (place + prefix_len is_not_blank (drop place s)) l) (drop-drop (prefix_len is_not_blank (drop place s)) place s)
      ∙ ap (λ p. (place, p) ∷ words_from None p (drop p s)) (sym is)

  pub long_on : place < end
  long_on = omega (arith, is, some_word (drop place s) (none_first (drop place s) some_here none) some_here)

-- ---- ranges that are added

-- the first word that is left is added
pub one_added : (old new : List (Range ℕ)) (f : ℕ × ℕ) (left later : List (ℕ × ℕ)) → new ≡ old ++ range_of f ∷ [] → left ≡ f ∷ later → new ++ map range_of later ≡ old ++ map range_of left
one_added old new f left later push is =
    ap (λ l. l ++ map range_of later) push ∙ append_assoc old (range_of f ∷ []) (map range_of later) ∙ ap (λ l. old ++ map range_of l) (sym is)

-- ---- a turn of the loop

power : (j g x : ℕ) → 2 ^ j * (2 ^ g * x) ≡ 2 ^ (j + g) * x
power j g x = let out : 2 ^ j * (2 ^ g * x) ≡ (2 ^ j * 2 ^ g) * x = omega arith in out ∙ ap (λ k. k * x) (sym (pow-add 2 j g))

no_factor : (j w : ℕ) → 2 ^ j * w ≡ 0 → w ≡ 0
no_factor zero w h = omega arith
no_factor (suc j) w h = no_factor j w (omega (arith, h, twice j w))

some_factor : (j w : ℕ) → 0 < 2 ^ j * w → 0 < w
some_factor j zero h = absurd (omega arith)
some_factor j (suc w) h = omega arith

-- n has the changes of what is left of a block, from a place on
module _ (s : List ℕ) (block place n : ℕ) (low : block ≤ place) (high : place ≤ length s) (near : place ≤ block + 32) (is : n ≡ 2 ^ (place - block) * changes true (part (32 - (place - block)) (drop place s))) where
  abbrev here : List ℕ
  here = part (32 - (place - block)) (drop place s)

  -- where the next word begins
  abbrev first : ℕ
  first = (place - block) + gap here

  abbrev after : ℕ
  after = changes false (begun here)

  sum : n ≡ 2 ^ first * (1 + 2 * after)
  sum = is ∙ ap (λ x. 2 ^ (place - block) * x) (changes_gap here) ∙ power (place - block) (gap here) (1 + 2 * after)

  size : (length here ≤ 32 - (place - block)) × (length here ≤ length s - place + 1)
  size =
      let most = length-part (32 - (place - block)) (drop place s) in
      (most.0, omega (arith, most.1, length-drop place s))

  fits : (first ≤ 32) × (block + first ≤ length s + 1)
  fits = let le = gap-le here in (omega (arith, le, size.0), omega (arith, le, size.1))

  pub some_left : 0 < n
  some_left = omega (arith, sum, some_power first after)

  pub begins : count_trailing_zeros 64 n ≡ first
  begins = ap (count_trailing_zeros 64) sum ∙ lowest 64 first after (omega (arith, fits.0))

  pub begins_within : block + count_trailing_zeros 64 n ≤ length s + 1
  begins_within = omega (arith, begins, fits.1)

  rest : bit_and n (n - 1) ≡ 2 ^ (first + 1) * after
  rest = ap (λ n. bit_and n (n - 1)) sum ∙ cleared first after

  start_is : block + count_trailing_zeros 64 n ≡ place + gap here
  start_is = omega (arith, begins)

  -- what is left of the words from there on
  pub left_there : words_from None place (drop place s) ≡ words_from None (block + count_trailing_zeros 64 n) (drop (block + count_trailing_zeros 64 n) s)
  left_there =
      words_gap (32 - (place - block)) (drop place s) place
      ∙ ap (words_from None (place + gap here)) (drop-drop (gap here) place s)
      ∙ ap (λ p. words_from None p (drop p s)) (sym start_is)

  -- where no word ends after it, it is not the block's first byte
  pub on_there : bit_and n (n - 1) ≡ 0 → 0 < blank_bits (block_from s block) → block < block + count_trailing_zeros 64 n
  on_there none some =
      elim (eq-zero-or-pos (place - block)) [
        | inl same ↦ (let there : place ≡ block = omega (arith, same) in
            let all : here ≡ block_from s block = ap₂ (λ k p. part (32 - k) (drop p s)) same there in
            let blank : 0 < blank_bits here = rw all some in
            let up = gap_some here blank (no_factor (first + 1) after (sym rest ∙ none)) in
            omega (arith, begins, up))
        | inr up ↦ omega (arith, begins, up)
      ]

  -- a word ends
  module _ (some : 0 < bit_and n (n - 1)) where
    later_some : 0 < after
    later_some = some_factor (first + 1) after (omega (arith, some, rest))

    abbrev long : ℕ
    long = run (begun here)

    abbrev last : ℕ
    last = first + 1 + long

    abbrev behind : ℕ
    behind = changes true (drop (suc long) (begun here))

    over : bit_and n (n - 1) ≡ 2 ^ last * (1 + 2 * behind)
    over = rest ∙ ap (λ x. 2 ^ (first + 1) * x) (changes_run (begun here) later_some) ∙ power (first + 1) long (1 + 2 * behind)

    room : first + 1 + long < (place - block) + length here
    room = omega (arith, (run_stops (begun here) later_some).0, length-drop (suc (gap here)) here)

    pub ends : count_trailing_zeros 64 (bit_and n (n - 1)) ≡ last
    ends = ap (count_trailing_zeros 64) over ∙ lowest 64 last behind (omega (arith, room, size.0))

    -- the word
    abbrev far : ℕ
    far = gap here + suc long

    pub end_on : place < block + count_trailing_zeros 64 (bit_and n (n - 1))
    end_on = omega (arith, ends)

    pub end_near : block + count_trailing_zeros 64 (bit_and n (n - 1)) ≤ block + 32
    end_near = omega (arith, ends, room, size.0)

    pub end_high : block + count_trailing_zeros 64 (bit_and n (n - 1)) ≤ length s
    end_high = omega (arith, ends, room, size.1)

    end_is : block + count_trailing_zeros 64 (bit_and n (n - 1)) ≡ place + far
    end_is = omega (arith, ends)

    pub word_there : words_from None place (drop place s) ≡ (block + count_trailing_zeros 64 n, block + count_trailing_zeros 64 (bit_and n (n - 1))) ∷ words_from None (block + count_trailing_zeros 64 (bit_and n (n - 1))) (drop (block + count_trailing_zeros 64 (bit_and n (n - 1))) s)
    word_there =
        word_in (32 - (place - block)) (drop place s) place far later_some refl
        ∙ ap (λ l. (place + gap here, place + far) ∷ words_from None (place + far) l) (drop-drop far place s)
        ∙ ap₂ (λ a b. (a, b) ∷ words_from None b (drop b s)) (sym start_is) (sym end_is)

    -- the changes after it
    pub left_after : (end : ℕ) → end ≡ block + count_trailing_zeros 64 (bit_and n (n - 1))
        → bit_and (bit_and n (n - 1)) (bit_and n (n - 1) - 1) ≡ 2 ^ (end - block) * changes true (part (32 - (end - block)) (drop end s))
    left_after end at =
        let stop : end ≡ place + far = at ∙ end_is in
        let go : end - block ≡ last = omega (arith, at, ends) in
        let twofold : 2 ^ (last + 1) * behind ≡ 2 ^ last * (2 * behind) = sym (power last 1 behind) ∙ ap (λ x. 2 ^ last * x) (let two : 2 ^ 1 * behind ≡ 2 * behind = omega arith in two) in
        let step : suc (gap here) + long ≡ far = omega arith in
        let most : far ≤ 32 - (place - block) = omega (arith, room, size.0) in
        let within : far ≤ length (drop place s) = omega (arith, room, size.1, length-drop place s) in
        let fewer : 32 - (place - block) - far ≡ 32 - last = omega (arith, most) in
        let bytes : drop long (begun here) ≡ part (32 - last) (drop end s) =
        drop-drop long (suc (gap here)) here ∙ ap (λ k. drop k here) step ∙ drop-part (32 - (place - block)) far (drop place s) most within
        ∙ ap₂ part fewer (drop-drop far place s ∙ ap (λ k. drop k s) (sym stop)) in
        ap (λ n. bit_and n (n - 1)) over ∙ cleared last behind ∙ twofold
        ∙ ap (λ x. 2 ^ last * x) (sym (run_stops (begun here) later_some).1 ∙ ap (changes true) bytes)
        ∙ ap (λ k. 2 ^ k * changes true (part (32 - k) (drop end s))) (sym go)
