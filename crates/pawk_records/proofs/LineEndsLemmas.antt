-- The ends of lines at the front of a text as bits, and the line that is cut off by them.
use Rattle.std.proofs.Common.{◌≡◌, ◌≢◌, ℕ, ◌+◌, ◌-◌, ◌*◌, ◌/◌, ◌%◌, ◌^◌, ◌<◌, ◌≤◌, true, false, not, cond, eqb, List, [], ◌∷◌, ◌++◌, map, length, take, drop, replicate, refl, ap, ap₂, arith, sym, ◌∙◌, pow_mono, shr-shr}
use Rattle.std.proofs.lemmas.Bool.{cond-false, eq-eqb, ne_eqb}
use Rattle.std.proofs.lemmas.List.{drop-drop, drop-map, drop-take, length-drop, length-map, length-take, length-take-le, map-append, take-append-drop, take-take}
use Rattle.std.proofs.lemmas.List.Folds.{prefix_len-append}
use Rattle.std.proofs.lemmas.Simd.{bitmask_splat, mask_l-lt, trailing_mask_l}
use Rattle.std.specs.List.{prefix_len}
use lib.Count.{count_trailing_zeros}
use lib.Lanes.{chunk, mask_l, top, zip2}
use mir.Syntax.{w8}
use Rattle.memchr.specs.Find.{is_byte}
use Rattle.pawk_records.specs.Records.{NoSeparator, records}
use Rattle.pawk_records.specs.LineEnds.{AreLineEnds, end_bits}
use Rattle.pawk_records.specs.declared.line_ends.LineEnds.{LineEnds}
use Rattle.pawk_records.proofs.BitLemmas.{mask_l-append, mask_l-drop}
use Rattle.pawk_records.proofs.LineLemmas.{past_none}
use Rattle.pawk_records.proofs.RecordsLemmas.{is_other, records_of_some}

-- the place of the lowest bit
abbrev pub lowest : ℕ → ℕ
lowest n = count_trailing_zeros 64 n

-- bytes, and those after them
take_on : (m n : ℕ) (s : List ℕ) → take (m + n) s ≡ take m s ++ take n (drop m s)
take_on m n s =
    sym (take-append-drop m (take (m + n) s)) ∙ ap₂ (λ a b. a ++ b) (take-take m (m + n) s (omega arith)) (drop-take m n s)

module _ (e : ℕ) where
  -- ---- bits

  bits_mask : (s : List ℕ) → end_bits e s ≡ mask_l (map (is_byte e) s)
  bits_mask [] = refl
  bits_mask (b ∷ s) = ap (λ n. cond (eqb b e) 1 0 + 2 * n) (bits_mask s)

  -- as many bits as bytes are enough
  pub bits_few : (p n : ℕ) (s : List ℕ) → end_bits e (chunk p n s) < 2 ^ n
  bits_few p n s =
      let here = chunk p n s in
      let long : 2 ^ length (map (is_byte e) here) ≡ 2 ^ length here = ap (λ k. 2 ^ k) (length-map here (is_byte e)) in
      let up : 2 ^ length here ≤ 2 ^ n = pow_mono (omega (arith, length-take n (drop p s))) in
      omega (arith, mask_l-lt (map (is_byte e) here), bits_mask here, long, up)

  -- a shift drops bytes
  bits_drop : (s : List ℕ) (k : ℕ) → end_bits e s / 2 ^ k ≡ end_bits e (drop k s)
  bits_drop s k =
      ap (λ n. n / 2 ^ k) (bits_mask s) ∙ sym (mask_l-drop (map (is_byte e) s) k) ∙ ap mask_l (drop-map (is_byte e) k s) ∙ sym (bits_mask (drop k s))

  bits_append : (s t : List ℕ) → end_bits e (s ++ t) ≡ end_bits e s + end_bits e t * 2 ^ length s
  bits_append s t =
      bits_mask (s ++ t) ∙ ap mask_l (map-append (is_byte e) s t) ∙ mask_l-append (map (is_byte e) s) (map (is_byte e) t)
      ∙ ap₂ (λ a b. a + b * 2 ^ length (map (is_byte e) s)) (sym (bits_mask s)) (sym (bits_mask t))
      ∙ ap (λ n. end_bits e s + end_bits e t * 2 ^ n) (length-map s (is_byte e))

  -- the bits of bytes and of those after them
  pub bits_on : (m n p : ℕ) (s : List ℕ) → p + m ≤ length s → end_bits e (chunk p m s) + end_bits e (chunk (p + m) n s) * 2 ^ m ≡ end_bits e (chunk p (m + n) s)
  bits_on m n p s room =
      let here = chunk p m s in
      let long : length here ≡ m = length-take-le m (drop p s) (omega (arith, length-drop p s)) in
      let behind : take n (drop m (drop p s)) ≡ chunk (p + m) n s = ap (take n) (drop-drop m p s) in
      ap (λ k. end_bits e here + end_bits e (chunk (p + m) n s) * 2 ^ k) (sym long)
      ∙ sym (bits_append here (chunk (p + m) n s))
      ∙ ap (λ l. end_bits e (here ++ l)) (sym behind)
      ∙ ap (end_bits e) (sym (take_on m n (drop p s)))

  -- the mask that is made of a vector
  pub lanes_are : (here : List ℕ) → length here ≡ 16 → mask_l (map (top 7) (zip2 (λ a b. cond (eqb a b) 255 0) here (replicate 16 e))) % 2 ^ 64 ≡ end_bits e here
  lanes_are here long = bitmask_splat w8 eqb here 16 e long (omega arith) ∙ sym (bits_mask here)

  -- where no bit is set no line ends
  pub no_end : (s : List ℕ) → end_bits e s ≡ 0 → NoSeparator e s
  no_end [] none = tt
  no_end (b ∷ s) none = (
    λ is. (let here : end_bits e (b ∷ s) ≡ 1 + 2 * end_bits e s = ap (λ v. cond v 1 0 + 2 * end_bits e s) (eq-eqb b e is) in
        omega (arith, none, here)),
    no_end s (omega (arith, none)),
  )

  -- else one does
  some_end : (s : List ℕ) → 0 < end_bits e s → prefix_len (is_other e) s < length s
  some_end [] some = absurd (omega arith)
  some_end (b ∷ s) some =
      elim (eqb b e) as (λ v. 0 < cond v 1 0 + 2 * end_bits e s → cond (not v) (1 + prefix_len (is_other e) s) 0 < length (b ∷ s)) [
        | true ↦ (λ h. omega arith)
        | false ↦ (λ h. let more = some_end s (omega arith) in omega (arith, more))
      ] some

  -- and the lowest bit is the first one
  first_end : (s : List ℕ) → length s ≤ 64 → 0 < end_bits e s → count_trailing_zeros 64 (end_bits e s) ≡ prefix_len (is_other e) s
  first_end s few some =
      ap (count_trailing_zeros 64) (bits_mask s) ∙ trailing_mask_l (is_byte e) 64 s few (let same = bits_mask s in omega (arith, some, same))

  -- ---- the line that ends at the lowest bit

  module _ (s : List ℕ) (from : ℕ) (ends : LineEnds) (within : from ≤ length s) (none : NoSeparator e (take from s)) (known : AreLineEnds e ends (drop from s)) (some : ends.bits ≢ 0) where
    seen_length : length (take ends.seen (drop from s)) ≡ ends.seen
    seen_length = length-take-le ends.seen (drop from s) known.within

    some_seen : 0 < end_bits e (take ends.seen (drop from s))
    some_seen = let right = known.right in omega (arith, some, right)

    first_is : lowest ends.bits ≡ prefix_len (is_other e) (take ends.seen (drop from s))
    first_is = ap lowest known.right ∙ first_end (take ends.seen (drop from s)) (omega (arith, seen_length, known.few)) some_seen

    -- it is one of those that were seen
    pub first_near : lowest ends.bits + 1 ≤ ends.seen
    first_near = omega (arith, first_is, some_end (take ends.seen (drop from s)) some_seen, seen_length)

    end_is : prefix_len (is_other e) s ≡ from + lowest ends.bits
    end_is =
        let here = take ends.seen (drop from s) in
        let behind = drop ends.seen (drop from s) in
        let short : prefix_len (is_other e) here ≢ length here = λ all. omega (arith, all, some_end here some_seen) in
        past_none e from s within none
        ∙ ap (λ n. from + n)
        (ap (prefix_len (is_other e)) (sym (take-append-drop ends.seen (drop from s))) ∙ prefix_len-append (is_other e) here behind ∙ cond-false _ _ _ (ne_eqb _ _ short) ∙ sym first_is)

    -- and of the text
    pub end_within : from + lowest ends.bits + 1 ≤ length s
    end_within = omega (arith, first_near, known.within, length-drop from s, within)

    -- the line before it is the first record
    pub line_cut : records e s ≡ take (from + lowest ends.bits) s ∷ records e (drop (from + lowest ends.bits + 1) s)
    line_cut = rw end_is at (records_of_some e s (omega (arith, end_within)))

    -- and the other ends that were seen are those of the text after it
    pub ends_left : AreLineEnds e (record { bits = ends.bits / 2 ^ lowest ends.bits / 2; seen = ends.seen - (lowest ends.bits + 1) }) (drop (from + lowest ends.bits + 1) s)
    ends_left =
        let first = lowest ends.bits in
        let left = ends.seen - (first + 1) in
        let all : ends.seen ≡ first + 1 + left = omega (arith, first_near) in
        let place : from + (first + 1) ≡ from + first + 1 = omega arith in
        record {
          within = omega (arith, first_near, known.within, length-drop from s, length-drop (from + first + 1) s);
          few = omega (arith, known.few);
          right = shr-shr ends.bits first 1
              ∙ ap (λ n. n / 2 ^ (first + 1)) known.right
              ∙ bits_drop (take ends.seen (drop from s)) (first + 1)
              ∙ ap (λ n. end_bits e (drop (first + 1) (take n (drop from s)))) all
              ∙ ap (end_bits e) (drop-take (first + 1) left (drop from s))
              ∙ ap (λ l. end_bits e (take left l)) (drop-drop (first + 1) from s ∙ ap (λ k. drop k s) place);
        }
