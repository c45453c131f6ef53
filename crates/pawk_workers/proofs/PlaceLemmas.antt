-- The count of a block, at its number.
use Rattle.std.proofs.Common.{◌≡◌, ◌⊎◌, inl, inr, ℕ, zero, suc, ◌+◌, ◌-◌, ◌*◌, ◌<◌, ◌≤◌, true, false, ltb, min, List, [], ◌∷◌, ◌++◌, length, take, get_or, Some, refl, sym, ap, ◌∙◌, arith, length-append}
use Rattle.std.specs.List.{flat_map, slice_get}
use Rattle.std.proofs.lemmas.Bool.Decides.{leb_tells}
use Rattle.std.proofs.lemmas.List.Concat.{get_or-flat_map}
use Rattle.std.proofs.lemmas.List.Sums.{sum_by-cons}
use Rattle.std.proofs.lemmas.Option.{slice_get-get_or}
use Rattle.std.proofs.Math.Nat.{suc-mul}
use Rattle.std.specs.Int.{div_ceil}
use Rattle.pawk_input.specs.Begins.{begins_within}
use Rattle.pawk_input.specs.Input.{File, file_at, empty_file}
use Rattle.pawk_input.specs.Counts.{blocks_of, block_counts, counts_along, counts_left}
use Rattle.pawk_input.proofs.CountLemmas.{length-counts_left}
use Rattle.pawk_workers.specs.Sizes.{file_blocks, blocks_in}
use Rattle.pawk_workers.proofs.SizeLemmas.{no_bytes, next_block, blocks_more, blocks_front}

ltb_tells : (a b : ℕ) → ((ltb a b ≡ true) × (a < b)) ⊎ ((ltb a b ≡ false) × (b ≤ a))
ltb_tells a b = elim (leb_tells (suc a) b) [ inl y ↦ inl (y.0, omega (arith, y.1)) | inr n ↦ inr (n.0, omega (arith, n.1)) ]

module _ (b : ℕ) (some : 0 < b) where
  -- the number of blocks that n bytes have
  blocks_are : (n fuel : ℕ) → n ≤ fuel → blocks_of b n fuel ≡ div_ceil n b
  blocks_are zero zero le = sym (no_bytes b some)
  blocks_are (suc n) zero le = absurd (omega arith)
  blocks_are n (suc fuel) le = elim (ltb_tells 0 n) [
    | inl y ↦ rw y.0 (ap (λ k. 1 + k) (blocks_are (n - b) fuel (omega (arith, y.1))) ∙ sym (next_block b some n y.1))
    | inr z ↦ rw z.0 (let none : n ≡ 0 = omega (arith, z.1) in sym (ap (λ m. div_ceil m b) none ∙ no_bytes b some))
  ]

  module _ (rs : List ℕ) where
    -- a file has a count for each of its blocks
    pub file_counted : (f : File) → length (counts_left rs b f.bytes 0) ≡ file_blocks b f
    file_counted f = length-counts_left b some rs f.bytes ∙ blocks_are (length f.bytes) (length f.bytes) (omega arith)

    abbrev counts_of : File → List ℕ
    counts_of f = counts_left rs b f.bytes 0

    counts_flat : (files : List File) → block_counts rs b files ≡ flat_map counts_of files
    counts_flat [] = refl
    counts_flat (f ∷ fs) = ap (λ l. counts_of f ++ l) (counts_flat fs)

    -- there is a count for each block
    pub all_counted : (files : List File) → length (block_counts rs b files) ≡ blocks_in b files
    all_counted [] = refl
    all_counted (f ∷ fs) =
        omega (arith, length-append (counts_of f) (block_counts rs b fs), file_counted f, all_counted fs, sum_by-cons (file_blocks b) f fs)

    module _ (bytes : List ℕ) where
      abbrev count_from : ℕ → ℕ
      count_from start = length (begins_within rs bytes start (min (start + b) (length bytes)))

      -- this is the j-th count from a place on, of the block that begins j blocks after it
      abbrev IsCountAlong : ℕ → ℕ → ℕ → Type 0
      IsCountAlong fuel from j = (from + j * b < length bytes) × (get_or (counts_along rs b bytes from fuel) j 0 ≡ count_from (from + j * b))

      one_along : (fuel from j : ℕ) → from < length bytes → counts_along rs b bytes from (suc fuel) ≡ count_from from ∷ counts_along rs b bytes (from + b) fuel
          → j < suc (length (counts_along rs b bytes (from + b) fuel)) → ((i : ℕ) → i < length (counts_along rs b bytes (from + b) fuel) → IsCountAlong fuel (from + b) i) → IsCountAlong (suc fuel) from j
      one_along fuel from zero more is lt later =
          let here : from + 0 * b ≡ from = omega arith in
          (omega arith, ap (λ l. get_or l 0 0) is ∙ ap count_from (sym here))
      one_along fuel from (suc j) more is lt later =
          let rest = later j (omega arith) in
          let there : (from + b) + j * b ≡ from + suc j * b = omega (arith, suc-mul j b) in
          (omega (arith, rest.0, there), ap (λ l. get_or l (suc j) 0) is ∙ (rest.1 ∙ ap count_from there))

      count_along : (fuel from j : ℕ) → j < length (counts_along rs b bytes from fuel) → IsCountAlong fuel from j
      count_along zero from j lt = absurd (omega arith)
      count_along (suc fuel) from j lt = elim (ltb_tells from (length bytes)) [
        | inl y ↦ one_along fuel from j y.1 (rw y.0 refl) (rw y.0 at lt) (λ i small. count_along fuel (from + b) i small)
        | inr z ↦ absurd (let none : j < 0 = rw z.0 at lt in omega arith)
      ]

    -- the count of the j-th block of a file, which begins in it
    pub count_at : (files : List File) (k j n : ℕ) → k < length files → j < file_blocks b (file_at files k) → n ≡ blocks_in b (take k files) + j
        → (j * b < length (file_at files k).bytes) × (slice_get (block_counts rs b files) n ≡ Some (count_from (file_at files k).bytes (j * b)))
    count_at files k j n exists within is =
        let f = file_at files k in
        let few : j < length (counts_of f) = omega (arith, within, file_counted f) in
        let here = count_along f.bytes (length f.bytes - 0) 0 j few in
        let zeroed : 0 + j * b ≡ j * b = omega arith in
        let front : length (flat_map counts_of (take k files)) ≡ blocks_in b (take k files) = ap length (sym (counts_flat (take k files))) ∙ all_counted (take k files) in
        let place : length (flat_map counts_of (take k files)) + j ≡ n = omega (arith, front, is) in
        let value : get_or (block_counts rs b files) n 0 ≡ count_from f.bytes (j * b) =
        ap (λ l. get_or l n 0) (counts_flat files)
        ∙ (ap (λ m. get_or (flat_map counts_of files) m 0) (sym place)
        ∙ (get_or-flat_map counts_of files k j empty_file 0 exists few ∙ (here.1 ∙ ap (count_from f.bytes) zeroed))) in
        let inside : n < length (block_counts rs b files) = omega (arith, all_counted files, is, within, blocks_within) in
        (omega (arith, here.0), slice_get-get_or (block_counts rs b files) n 0 inside ∙ ap Some value)
      where
        blocks_within : blocks_in b (take k files) + file_blocks b (file_at files k) ≤ blocks_in b files
        blocks_within = omega (arith, blocks_more b files k exists, blocks_front b files (k + 1))
