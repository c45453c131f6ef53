-- How many blocks there are.
use Rattle.std.proofs.Common.{◌≡◌, ℕ, zero, suc, ◌+◌, ◌-◌, ◌*◌, ◌^◌, ◌<◌, ◌≤◌, Bool, true, cond, nat_lt, List, [], ◌∷◌, length, take, sum_by, refl, sym, ap, ◌∙◌, subst, arith}
use native.Mathlib.Decide.{dec_le}
use Rattle.std.proofs.lemmas.Bool.Decides.{nat_tests}
use Rattle.std.proofs.lemmas.Grind.{div_ceil_times}
use Rattle.std.proofs.lemmas.List.{take_more}
use Rattle.std.proofs.lemmas.List.Sums.{sum_by-append, sum_by-cons, sum_by-take-le}
use Rattle.std.proofs.lemmas.Nat.{row_fits}
use Rattle.std.proofs.Math.Nat.{suc-mul, pow-suc}
use Rattle.std.specs.Int.{div_ceil}
use Rattle.pawk_input.specs.Input.{File, file_at, empty_file, total_size}
use Rattle.pawk_workers.specs.Sizes.{least_size, most_blocks, file_blocks, blocks_in, filled}

module _ (b : ℕ) (some : 0 < b) where
  -- no number but the quotient lies between these
  quotient_least : (a p q : ℕ) → a ≤ q * b → p * b < a + b → p ≤ q
  quotient_least a p q up low = by_test (dec_le p q)
    where
      by_test : Dec (p ≤ q) → p ≤ q
      by_test (yes le) = le
      by_test (no gt) = absurd (omega (arith, row_fits q b p b (omega arith) (omega arith)))

  pub quotient_is : (a q : ℕ) → a ≤ q * b → q * b < a + b → div_ceil a b ≡ q
  quotient_is a q up low =
      let d = div_ceil_times a b some in
      let le : div_ceil a b ≤ q = quotient_least a (div_ceil a b) q up d.1 in
      let ge : q ≤ div_ceil a b = quotient_least a q (div_ceil a b) d.0 low in
      omega arith

  pub no_bytes : div_ceil 0 b ≡ 0
  no_bytes = quotient_is 0 0 (omega arith) (omega arith)

  pub one_block : (n : ℕ) → 0 < n → n ≤ b → div_ceil n b ≡ 1
  one_block n lt le = quotient_is n 1 (omega arith) (omega arith)

  -- one block, and those of the bytes after it
  pub next_block : (n : ℕ) → 0 < n → div_ceil n b ≡ 1 + div_ceil (n - b) b
  next_block n lt = by_size (dec_le n b)
    where
      by_size : Dec (n ≤ b) → div_ceil n b ≡ 1 + div_ceil (n - b) b
      by_size (yes le) =
          let none : n - b ≡ 0 = omega arith in
          one_block n lt le ∙ ap (λ k. 1 + k) (sym (ap (λ m. div_ceil m b) none ∙ no_bytes))
      by_size (no gt) =
          let d = div_ceil_times (n - b) b some in
          let q = div_ceil (n - b) b in
          let s : suc q * b ≡ q * b + b = suc-mul q b in
          let whole = quotient_is n (suc q) (omega arith) (omega arith) in
          omega (arith, whole)

-- of a file that a block holds, one block or none
one_large : (b : ℕ) → 0 < b → (f : File) (fs : List File) (n : ℕ) → length f.bytes ≡ n → n ≤ b → blocks_in b fs ≡ length (filled fs) → blocks_in b (f ∷ fs) ≡ length (filled (f ∷ fs))
one_large b some f fs zero e le rest =
    let none : file_blocks b f ≡ 0 = ap (λ m. div_ceil m b) e ∙ no_bytes b some in
    let same : length (filled (f ∷ fs)) ≡ length (filled fs) = ap (λ (m : ℕ). length (cond (nat_lt 0 m) (f ∷ filled fs) (filled fs))) e in
    omega (arith, sum_by-cons (file_blocks b) f fs, none, rest, same)
one_large b some f fs (suc n) e le rest =
    let one : file_blocks b f ≡ 1 = one_block b some (length f.bytes) (omega arith) (omega arith) in
    let test : nat_lt 0 (length f.bytes) ≡ true = grind (arith, nat_tests) in
    let more : length (filled (f ∷ fs)) ≡ suc (length (filled fs)) = ap (λ (t : Bool). length (cond t (f ∷ filled fs) (filled fs))) test in
    omega (arith, sum_by-cons (file_blocks b) f fs, one, rest, more)

-- a block that holds any file: as many blocks as files that hold bytes
pub blocks_large : (b : ℕ) → 0 < b → (files : List File) → total_size files ≤ b → blocks_in b files ≡ length (filled files)
blocks_large b some [] le = refl
blocks_large b some (f ∷ fs) le = one_large b some f fs (length f.bytes) refl (omega arith) (blocks_large b some fs (omega arith))

-- the blocks before the next file
pub blocks_more : (b : ℕ) (files : List File) (k : ℕ) → k < length files → blocks_in b (take (k + 1) files) ≡ blocks_in b (take k files) + file_blocks b (file_at files k)
blocks_more b files k lt =
    let f = file_at files k in
    let more : take (k + 1) files ≡ _ = take_more files k empty_file lt in
    let joined = ap (sum_by (file_blocks b)) more in
    omega (arith, joined, sum_by-append (file_blocks b) (take k files) (f ∷ []), sum_by-cons (file_blocks b) f [])

pub blocks_front : (b : ℕ) (files : List File) (k : ℕ) → blocks_in b (take k files) ≤ blocks_in b files
blocks_front b files k = sum_by-take-le (file_blocks b) files k

-- a file has no more blocks than bytes
pub few_in_file : (b : ℕ) → 0 < b → (n : ℕ) → div_ceil n b ≤ n
few_in_file b some n = quotient_least b some n (div_ceil n b) n (omega (arith, widened)) (div_ceil_times n b some).1
  where
    widened : n ≤ n * b
    widened = omega (arith, row_fits 0 n b n some (omega arith))

pub few_in_files : (b : ℕ) → 0 < b → (files : List File) → blocks_in b files ≤ total_size files
few_in_files b some [] = omega arith
few_in_files b some (f ∷ fs) =
    let rest = few_in_files b some fs in
    omega (arith, few_in_file b some (length f.bytes), rest, sum_by-cons (file_blocks b) f fs)

-- while there are too many blocks, a block does not hold any file
pub still_small : (large size most : ℕ) → 0 < large → 0 < size → (files : List File) → total_size files ≤ large → blocks_in large files ≤ most → most < blocks_in size files → size < large
still_small large size most some here files limited few many = by_test (dec_le large size)
  where
    by_test : Dec (large ≤ size) → size < large
    by_test (yes le) = absurd (omega (arith, blocks_large large some files limited, blocks_large size here files (omega arith)))
    by_test (no lt) = omega arith

-- the least size that was doubled so often, each time for too many blocks
abbrev pub IsDoubled : List File → ℕ → Type 0
IsDoubled files size = (doublings : ℕ) × (size ≡ least_size * 2 ^ doublings) × ((k : ℕ) → k < doublings → most_blocks < blocks_in (least_size * 2 ^ k) files)

pub doubled_more : (files : List File) (size : ℕ) → IsDoubled files size → most_blocks < blocks_in size files → IsDoubled files (size * 2)
doubled_more files size d many = (suc d.0, twice, λ k lt. by_test k lt (dec_le d.0 k))
  where
    twice : size * 2 ≡ least_size * 2 ^ suc d.0
    twice = let p : 2 ^ suc d.0 ≡ 2 ^ d.0 * 2 = pow-suc 2 d.0 in omega (arith, d.1)

    by_test : (k : ℕ) → k < suc d.0 → Dec (d.0 ≤ k) → most_blocks < blocks_in (least_size * 2 ^ k) files
    by_test k lt (no small) = d.2 k (omega arith)
    by_test k lt (yes le) =
        let last : d.0 ≡ k = omega arith in
        let same : size ≡ least_size * 2 ^ k = d.1 ∙ ap (λ (j : ℕ). least_size * 2 ^ j) last in
        subst (λ (s : ℕ). most_blocks < blocks_in s files) same many
