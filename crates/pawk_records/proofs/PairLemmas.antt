-- Pairs of newlines as bits, and the paragraph that ends at the first of them.
use Rattle.std.proofs.Common.{◌≡◌, ◌≢◌, ℕ, zero, suc, ◌+◌, ◌-◌, ◌*◌, ◌/◌, ◌%◌, ◌<◌, ◌≤◌, min, Bool, true, false, ◌&&◌, cond, eqb, bit_and, List, [], ◌∷◌, length, take, drop, refl, ap, ap₂, arith, sym, ◌∙◌}
use Rattle.std.proofs.lemmas.List.{drop-drop, length-drop, length-take}
use lib.Bits.{and_step}
use lib.Count.{count_trailing_zeros, under}
use Rattle.pawk_records.specs.Records.{newline, ends_line}
use Rattle.pawk_records.specs.Paragraph.{paragraph_length}
use Rattle.pawk_records.specs.LineEnds.{end_bits}
use Rattle.pawk_records.proofs.BitLemmas.{halved}

-- ---- bits

-- whether a newline comes first
abbrev begins : List ℕ → Bool
begins [] = false
begins (b ∷ s) = eqb b newline

-- a bit for each byte; it is set where the byte and the one after it are newlines
abbrev pair_bits : List ℕ → ℕ
pair_bits [] = 0
pair_bits (b ∷ s) = cond (eqb b newline && begins s) 1 0 + 2 * pair_bits s

bit_rest : (p : Bool) (n : ℕ) → (cond p 1 0 + 2 * n) % 2 ≡ cond p 1 0
bit_rest true n = omega arith
bit_rest false n = omega arith

-- the lowest bit is the first byte's
first_bit : (s : List ℕ) → end_bits newline s % 2 ≡ cond (begins s) 1 0
first_bit [] = refl
first_bit (b ∷ s) = bit_rest (eqb b newline) (end_bits newline s)

both : (p q : Bool) → min (cond p 1 0) (cond q 1 0) ≡ cond (p && q) 1 0
both true true = refl
both true false = refl
both false true = refl
both false false = refl

-- they are computed from the ends of lines
pairs_are : (s : List ℕ) → bit_and (end_bits newline s) (end_bits newline s / 2) ≡ pair_bits s
pairs_are [] = refl
pairs_are (b ∷ s) =
    let here = end_bits newline (b ∷ s) in
    let later = end_bits newline s in
    let half : here / 2 ≡ later = halved (eqb b newline) later in
    let bits : min (here % 2) (later % 2) ≡ cond (eqb b newline && begins s) 1 0 =
    ap₂ min (bit_rest (eqb b newline) later) (first_bit s) ∙ both (eqb b newline) (begins s) in
    let turn : pair_bits s * 2 + cond (eqb b newline && begins s) 1 0 ≡ pair_bits (b ∷ s) = omega arith in
    ap (bit_and here) half ∙ and_step here later ∙ ap₂ (λ a d. bit_and a (later / 2) * 2 + d) half bits
    ∙ ap (λ a. a * 2 + cond (eqb b newline && begins s) 1 0) (pairs_are s) ∙ turn

-- ---- the end of a paragraph

-- where bytes are seen, what comes first is known
front : (n : ℕ) (s : List ℕ) → 0 < length (take n s) → begins (take n s) ≡ ends_line s
front zero s some = absurd (omega arith)
front (suc n) [] some = absurd (omega arith)
front (suc n) (b ∷ s) some = refl

-- where no pair is seen no paragraph ends, but maybe at the last byte
no_pair : (n : ℕ) (s : List ℕ) → n < length s → pair_bits (take (suc n) s) ≡ 0 → paragraph_length s ≡ n + paragraph_length (drop n s)
no_pair zero s long none = omega arith
no_pair (suc n) [] long none = absurd (omega arith)
no_pair (suc n) (b ∷ s) long none =
    let seen : begins (take (suc n) s) ≡ ends_line s = front (suc n) s (omega (arith, length-take (suc n) s)) in
    let later : paragraph_length s ≡ n + paragraph_length (drop n s) = no_pair n s (omega arith) (omega (arith, none)) in
    by_first (eqb b newline && ends_line s) (rw seen at none) later
  where
    by_first : (v : Bool) → cond v 1 0 + 2 * pair_bits (take (suc n) s) ≡ 0 → paragraph_length s ≡ n + paragraph_length (drop n s)
        → cond v 0 (1 + paragraph_length s) ≡ suc n + paragraph_length (drop n s)
    by_first true none later = absurd (omega arith)
    by_first false none later = omega (arith, later)

-- a pair needs two bytes
some_after : (b : ℕ) (s : List ℕ) → 0 < pair_bits (b ∷ s) → 0 < length s
some_after b [] some = elim (eqb b newline) as (λ v. 0 < cond (v && false) 1 0 + 2 * 0 → 0 < 0) [ true ↦ (λ h. omega arith) | false ↦ (λ h. omega arith) ] some
some_after b (c ∷ s) some = omega arith

-- where a pair is seen the paragraph ends at the first one
first_pair : (k n : ℕ) (s : List ℕ) → n ≤ k → 0 < pair_bits (take n s) → count_trailing_zeros k (pair_bits (take n s)) ≡ paragraph_length s
unfolding count_trailing_zeros
first_pair k zero s le some = absurd (omega arith)
first_pair zero (suc n) s le some = absurd (omega arith)
first_pair (suc k) (suc n) [] le some = absurd (omega arith)
first_pair (suc k) (suc n) (b ∷ s) le some =
    let seen : begins (take n s) ≡ ends_line s = front n s (some_after b (take n s) some) in
    rw seen (by_first (eqb b newline && ends_line s) (rw seen at some) (first_pair k n s (omega arith)))
  where
    by_first : (v : Bool) → 0 < cond v 1 0 + 2 * pair_bits (take n s) → (0 < pair_bits (take n s) → count_trailing_zeros k (pair_bits (take n s)) ≡ paragraph_length s)
        → under ((cond v 1 0 + 2 * pair_bits (take n s)) % 2) (count_trailing_zeros k ((cond v 1 0 + 2 * pair_bits (take n s)) / 2)) ≡ cond v 0 (1 + paragraph_length s)
    by_first true some later = ap (λ d. under d (count_trailing_zeros k ((1 + 2 * pair_bits (take n s)) / 2))) (bit_rest true (pair_bits (take n s)))
    by_first false some later =
        ap₂ (λ d r. under d (count_trailing_zeros k r)) (bit_rest false (pair_bits (take n s))) (halved false (pair_bits (take n s)))
        ∙ omega (arith, later (omega arith))

-- ---- a block of a text, before which no paragraph ends

module _ (s : List ℕ) (from ends : ℕ) (within : from ≤ length s) (room : 64 ≤ length s - from) (none : paragraph_length s ≡ from + paragraph_length (drop from s)) (are : ends ≡ end_bits newline (take 64 (drop from s))) where
  pairs_of : bit_and ends (ends / 2) ≡ pair_bits (take 64 (drop from s))
  pairs_of = ap (λ n. bit_and n (n / 2)) are ∙ pairs_are (take 64 (drop from s))

  -- the paragraph ends at the lowest bit
  pub end_is : bit_and ends (ends / 2) ≢ 0 → from + count_trailing_zeros 64 (bit_and ends (ends / 2)) ≡ paragraph_length s
  end_is some =
      let first = first_pair 64 64 (drop from s) (omega arith) (omega (arith, some, pairs_of)) in
      omega (arith, none, ap (count_trailing_zeros 64) pairs_of ∙ first)

  -- none ends before the last byte
  pub none_before : bit_and ends (ends / 2) ≡ 0 → paragraph_length s ≡ from + 63 + paragraph_length (drop (from + 63) s)
  none_before empty =
      let later = no_pair 63 (drop from s) (omega (arith, within, room, length-drop from s)) (sym pairs_of ∙ empty) in
      omega (arith, none, later, ap paragraph_length (drop-drop 63 from s))
