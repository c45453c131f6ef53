-- The blanks of a block as bits.
use Rattle.std.proofs.Common.{◌≡◌, ℕ, zero, suc, ◌+◌, ◌*◌, ◌/◌, ◌%◌, ◌^◌, ◌-◌, ◌<◌, ◌≤◌, Bool, true, false, cond, eqb, bit_or, List, [], ◌∷◌, ◌++◌, map, length, drop, take, replicate, refl, ap, ap₂, arith, sym, ◌∙◌, shr-shr, pow_mono, length-append, length-drop, append_assoc}
use Rattle.std.proofs.lemmas.List.{drop-drop, drop-append-le, length-map, length-take, take_all, take-append-le, take_at}
use Rattle.std.proofs.lemmas.Simd.{chunk-drop, length-chunk, mask_l-lt, mask_l-mod, trailing_mask_l, zip2_of_maps, zip2_splat}
use Rattle.std.specs.List.{prefix_len}
use native.Mathlib.Nat.{div-one, pow-suc, zero-div}
use lib.Count.{count_trailing_zeros}
use lib.Lanes.{chunk, mask_l, top, zip2}
use Rattle.pawk_value.specs.Bytes.{is_blank}
use Rattle.pawk_fields.specs.Blocks.{blank_bits, block_from}
use Rattle.pawk_fields.specs.Fields.{is_not_blank}
use Rattle.pawk_fields.proofs.WordLanes.{blank_lane, either_lane, equal_lane}

-- ---- bits

pub bits_mask : (s : List ℕ) → blank_bits s ≡ mask_l (map is_blank s)
bits_mask [] = refl
bits_mask (b ∷ s) = ap (λ n. cond (is_blank b) 1 0 + 2 * n) (bits_mask s)

-- k bits are enough
pub bits_fit : (s : List ℕ) (k : ℕ) → length s ≤ k → blank_bits s < 2 ^ k
bits_fit s k le =
    let most = mask_l-lt (map is_blank s) in
    let same = bits_mask s in
    let long : 2 ^ length (map is_blank s) ≡ 2 ^ length s = ap (λ n. 2 ^ n) (length-map s is_blank) in
    let up : 2 ^ length s ≤ 2 ^ k = pow_mono le in
    omega (arith, most, same, long, up)

halved : (b : Bool) (n : ℕ) → (cond b 1 0 + 2 * n) / 2 ≡ n
halved true n = omega arith
halved false n = omega arith

-- a shift drops bytes
pub bits_drop : (s : List ℕ) (k : ℕ) → blank_bits s / 2 ^ k ≡ blank_bits (drop k s)
bits_drop s zero = div-one (blank_bits s)
bits_drop [] (suc k) = zero-div (2 ^ suc k)
bits_drop (b ∷ s) (suc k) =
    let one : suc k ≡ 1 + k = omega arith in
    ap (λ j. blank_bits (b ∷ s) / 2 ^ j) one ∙ sym (shr-shr (blank_bits (b ∷ s)) 1 k) ∙ ap (λ n. n / 2 ^ k) (halved (is_blank b) (blank_bits s)) ∙ bits_drop s k

pub bits_append : (s t : List ℕ) → blank_bits (s ++ t) ≡ blank_bits s + blank_bits t * 2 ^ length s
bits_append [] t = omega arith
bits_append (b ∷ s) t =
    let more = bits_append s t in
    let twice : blank_bits t * 2 ^ length (b ∷ s) ≡ 2 * (blank_bits t * 2 ^ length s) = ap (λ n. blank_bits t * n) (pow-suc 2 (length s)) ∙ omega arith in
    omega (arith, more, twice)

-- a blank after bytes
pub bits_after : (s : List ℕ) → blank_bits (s ++ 32 ∷ []) ≡ blank_bits s + 2 ^ length s
bits_after s = bits_append s (32 ∷ []) ∙ omega arith

-- the lowest bit is the first blank
pub first_blank : (s : List ℕ) → length s ≤ 64 → 0 < blank_bits s → count_trailing_zeros 64 (blank_bits s) ≡ prefix_len is_not_blank s
first_blank s few some = ap (count_trailing_zeros 64) (bits_mask s) ∙ trailing_mask_l is_blank 64 s few (let same = bits_mask s in omega (arith, some, same))

-- where no bit is set no blank is
pub no_blank : (s : List ℕ) → blank_bits s ≡ 0 → prefix_len is_not_blank s ≡ length s
no_blank [] none = refl
no_blank (b ∷ s) none =
    elim (is_blank b) as (λ v. cond v 1 0 + 2 * blank_bits s ≡ 0 → cond (Rattle.std.proofs.Common.not v) (1 + prefix_len is_not_blank s) 0 ≡ length (b ∷ s)) [
      | true ↦ (λ h. absurd (omega arith))
      | false ↦ (λ h. let more = no_blank s (omega arith) in omega (arith, more))
    ] none

-- ---- the lanes

top_is : (b : Bool) → top 7 (cond b 255 0) ≡ b
top_is true = refl
top_is false = refl

tops : (xs : List ℕ) → map (top 7) (map blank_lane xs) ≡ map is_blank xs
tops [] = refl
tops (x ∷ xs) =
    ap₂ (λ b bs. b ∷ bs) (ap (top 7) (either_lane (eqb x 32) (eqb x 9) (eqb x 10)) ∙ top_is (is_blank x)) (tops xs)

-- the mask that is made of a vector
pub lanes_are : (here : List ℕ) → length here ≡ 16
    → mask_l (map (top 7) (zip2 bit_or (zip2 equal_lane here (replicate 16 32)) (zip2 bit_or (zip2 equal_lane here (replicate 16 9)) (zip2 equal_lane here (replicate 16 10))))) % 2 ^ 64 ≡ blank_bits here
lanes_are here long =
    let blanks = zip2_of_maps bit_or (λ a. equal_lane a 32) (λ a. bit_or (equal_lane a 9) (equal_lane a 10)) here (zip2_splat equal_lane here 16 32 long)
    (zip2_of_maps bit_or (λ a. equal_lane a 9) (λ a. equal_lane a 10) here (zip2_splat equal_lane here 16 9 long) (zip2_splat equal_lane here 16 10 long)) in
    ap (λ lanes. mask_l (map (top 7) lanes) % 2 ^ 64) blanks
    ∙ ap (λ ms. mask_l ms % 2 ^ 64) (tops here)
    ∙ mask_l-mod (map is_blank here) 64 (omega (arith, length-map here is_blank, long))
    ∙ sym (bits_mask here)

-- ---- blocks

-- the last bytes of a text, in the last lanes
pub last_bits : (s : List ℕ) (from n : ℕ) → 16 ≤ length s → length s - 16 ≤ from → from ≤ length s → n ≡ blank_bits (chunk (length s - 16) 16 s)
    → (n + 65536) / 2 ^ (from - (length s - 16)) ≡ blank_bits (drop from s ++ 32 ∷ [])
last_bits s from n long low high is =
    let last = length s - 16 in
    let lanes = chunk last 16 s in
    let size : length lanes ≡ 16 = length-chunk last 16 s (omega arith) in
    let skip = from - last in
    let at : 2 ^ length lanes ≡ 65536 = ap (λ n. 2 ^ n) size in
    let whole : lanes ≡ drop last s = take_all 16 (drop last s) (omega (arith, length-drop last s)) in
    let to : last + skip ≡ from = omega arith in
    let sum : n + 65536 ≡ blank_bits (lanes ++ 32 ∷ []) = omega (arith, is, at, bits_after lanes) in
    ap (λ n. n / 2 ^ skip) sum
    ∙ bits_drop (lanes ++ 32 ∷ []) skip
    ∙ ap blank_bits (drop-append-le skip lanes (32 ∷ []) (omega (arith, size)))
    ∙ ap (λ l. blank_bits (l ++ 32 ∷ [])) (ap (drop skip) whole ∙ drop-drop skip last s ∙ ap (λ k. drop k s) to)

module _ (s : List ℕ) (from : ℕ) where
  -- a block at the end
  pub block_last : length s < from + 32 → from ≤ length s → block_from s from ≡ drop from s ++ 32 ∷ []
  block_last near within = take_all 32 (drop from s ++ 32 ∷ []) (omega (arith, length-append (drop from s) (32 ∷ []), length-drop from s))

  -- or one that is no longer than the text
  pub block_full : from + 32 ≤ length s → block_from s from ≡ chunk from 32 s
  block_full room = take-append-le 32 (drop from s) (32 ∷ []) (omega (arith, length-drop from s))

  pub length-block : length (block_from s from) ≤ 32
  length-block = omega (arith, length-take 32 (drop from s ++ 32 ∷ []))

  -- it begins with the bytes of the lanes, and those after them are either the last ones
  pub block_ends : (n later : ℕ) → from + 16 ≤ length s → length s < from + 32 → n ≡ blank_bits (chunk from 16 s) → later ≡ blank_bits (drop (from + 16) s ++ 32 ∷ []) → n + later * 65536 ≡ blank_bits (block_from s from)
  block_ends n later room near is behind =
      let lanes = chunk from 16 s in
      let size : length lanes ≡ 16 = length-chunk from 16 s room in
      let at : 2 ^ length lanes ≡ 65536 = ap (λ n. 2 ^ n) size in
      ap₂ (λ a b. a + b * 65536) is behind
      ∙ ap (λ k. blank_bits lanes + blank_bits (drop (from + 16) s ++ 32 ∷ []) * k) (sym at)
      ∙ sym (bits_append lanes (drop (from + 16) s ++ 32 ∷ []))
      ∙ ap blank_bits (sym (append_assoc lanes (drop (from + 16) s) (32 ∷ [])) ∙ ap (λ l. l ++ 32 ∷ []) (sym (chunk-drop from 16 s)) ∙ sym (block_last near (omega arith)))

  -- or those of lanes too
  pub block_goes : (n later : ℕ) → from + 32 ≤ length s → n ≡ blank_bits (chunk from 16 s) → later ≡ blank_bits (chunk (from + 16) 16 s) → n + later * 65536 ≡ blank_bits (block_from s from)
  block_goes n later room is behind =
      let lanes = chunk from 16 s in
      let size : length lanes ≡ 16 = length-chunk from 16 s (omega arith) in
      let at : 2 ^ length lanes ≡ 65536 = ap (λ n. 2 ^ n) size in
      let next = chunk (from + 16) 16 s in
      let both : length (lanes ++ next) ≡ 32 = omega (arith, length-append lanes next, size, length-chunk (from + 16) 16 s (omega arith)) in
      let on : drop from s ≡ (lanes ++ next) ++ drop (from + 16 + 16) s =
      chunk-drop from 16 s ∙ ap (λ l. lanes ++ l) (chunk-drop (from + 16) 16 s) ∙ sym (append_assoc lanes next (drop (from + 16 + 16) s)) in
      ap₂ (λ a b. a + b * 65536) is behind
      ∙ ap (λ k. blank_bits lanes + blank_bits next * k) (sym at)
      ∙ sym (bits_append lanes next)
      ∙ ap blank_bits (sym (block_full room ∙ ap (take 32) on ∙ take_at (lanes ++ next) (drop (from + 16 + 16) s) 32 both))
