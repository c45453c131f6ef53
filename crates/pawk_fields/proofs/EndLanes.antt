-- Where a word ends among bytes that are looked at side by side.
use Rattle.std.proofs.Common.{◌≡◌, ℕ, ◌+◌, ◌/◌, ◌^◌, ◌-◌, ◌<◌, ◌≤◌, cond, eqb, List, [], ◌∷◌, ◌++◌, length, drop, refl, ap, arith, sym, ◌∙◌}
use Rattle.std.proofs.lemmas.List.{drop-append-le, drop-drop, length-append, length-drop, take_all}
use Rattle.std.proofs.lemmas.List.Folds.{prefix_len-append}
use Rattle.std.proofs.lemmas.List.Sums.{prefix_len-le-length}
use Rattle.std.proofs.lemmas.Simd.{chunk-drop, length-chunk}
use Rattle.std.specs.List.{prefix_len}
use Rattle.std.proofs.lemmas.Bool.{cond-false, cond-true, eq-eqb, ne_eqb}
use lib.Count.{count_trailing_zeros}
use lib.Lanes.{chunk}
use Rattle.pawk_fields.specs.Blocks.{blank_bits}
use Rattle.pawk_fields.specs.Fields.{is_not_blank}
use Rattle.pawk_fields.proofs.BlockBits.{bits_after, bits_drop, bits_fit, first_blank}

-- ---- the bits of the lanes, and one after them

-- a blank after bytes ends their word
ended : (xs : List ℕ) → prefix_len is_not_blank (xs ++ 32 ∷ []) ≡ prefix_len is_not_blank xs
ended [] = refl
ended (x ∷ xs) = ap (λ n. cond (is_not_blank x) (1 + n) 0) (ended xs)

some_bit : (xs : List ℕ) → 0 < blank_bits (xs ++ 32 ∷ [])
some_bit [] = omega arith
some_bit (x ∷ xs) = omega (arith, some_bit xs)

pub lanes_end : (xs : List ℕ) (n skip : ℕ) → length xs ≡ 16 → skip ≤ 16 → n ≡ blank_bits xs
    → count_trailing_zeros 64 ((n + 65536) / 2 ^ skip) ≡ prefix_len is_not_blank (drop skip xs)
lanes_end xs n skip long le is =
    let all = xs ++ 32 ∷ [] in
    let rest = drop skip xs in
    let at : 2 ^ length xs ≡ 65536 = ap (λ n. 2 ^ n) long in
    let sum : n + 65536 ≡ blank_bits all = omega (arith, is, at, bits_after xs) in
    ap (λ n. count_trailing_zeros 64 (n / 2 ^ skip)) sum
    ∙ ap (count_trailing_zeros 64) (bits_drop all skip ∙ ap blank_bits (drop-append-le skip xs (32 ∷ []) (omega (arith, long))))
    ∙ first_blank (rest ++ 32 ∷ []) (omega (arith, length-append rest (32 ∷ []), length-drop skip xs)) (some_bit rest)
    ∙ ended rest

pub lanes_fit : (xs : List ℕ) (n : ℕ) → length xs ≡ 16 → n ≡ blank_bits xs → n + 65536 < 2 ^ 64
lanes_fit xs n long is = omega (arith, is, bits_fit xs 16 (omega (arith, long)))

-- ---- the word at a place

module _ (s : List ℕ) (from : ℕ) where
  split : prefix_len is_not_blank (drop from s) ≡ cond (eqb (prefix_len is_not_blank (chunk from 16 s)) (length (chunk from 16 s))) (length (chunk from 16 s) + prefix_len is_not_blank (drop (from + 16) s)) (prefix_len is_not_blank (chunk from 16 s))
  split = ap (prefix_len is_not_blank) (chunk-drop from 16 s) ∙ prefix_len-append is_not_blank (chunk from 16 s) (drop (from + 16) s)

  -- it ends within the lanes
  pub near : (run : ℕ) → from + 16 ≤ length s → run ≡ prefix_len is_not_blank (drop 0 (chunk from 16 s)) → run < 16 → run ≡ prefix_len is_not_blank (drop from s)
  near run room is lt =
      is ∙ sym (split ∙ cond-false _ _ _ (ne_eqb _ _ (λ (e : prefix_len is_not_blank (chunk from 16 s) ≡ length (chunk from 16 s)). omega (arith, e, is, lt, length-chunk from 16 s room))))

  -- or goes on after them
  pub far : (run : ℕ) → from + 16 ≤ length s → run ≡ prefix_len is_not_blank (drop 0 (chunk from 16 s)) → 16 ≤ run → prefix_len is_not_blank (drop from s) ≡ 16 + prefix_len is_not_blank (drop (from + 16) s)
  far run room is le =
      let long = length-chunk from 16 s room in
      let most = prefix_len-le-length is_not_blank (chunk from 16 s) in
      let all : prefix_len is_not_blank (chunk from 16 s) ≡ length (chunk from 16 s) = omega (arith, is, le, long, most) in
      split ∙ cond-true _ _ _ (eq-eqb _ _ all) ∙ ap (λ n. n + prefix_len is_not_blank (drop (from + 16) s)) long

  -- or it is in the last lanes
  pub last : (run : ℕ) → 16 ≤ length s → length s - 16 ≤ from → run ≡ prefix_len is_not_blank (drop (from - (length s - 16)) (chunk (length s - 16) 16 s)) → run ≡ prefix_len is_not_blank (drop from s)
  last run long le is =
      let place = length s - 16 in
      let to : place + (from - place) ≡ from = omega arith in
      is ∙ ap (prefix_len is_not_blank) (ap (drop (from - place)) (take_all 16 (drop place s) (omega (arith, length-drop place s))) ∙ drop-drop (from - place) place s ∙ ap (λ k. drop k s) to)

  -- it does not go past the end
  pub within : from ≤ length s → from + prefix_len is_not_blank (drop from s) ≤ length s
  within le = omega (arith, prefix_len-le-length is_not_blank (drop from s), length-drop from s)
