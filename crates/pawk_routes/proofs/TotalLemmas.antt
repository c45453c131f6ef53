-- The bytes of the first files together.
use Rattle.std.proofs.Common.{◌≡◌, ◌∙◌, ℕ, zero, suc, ◌+◌, ◌<◌, ◌≤◌, List, [], ◌∷◌, length, take, refl, ap, arith}
use Rattle.pawk_input.specs.Input.{File, file_at, total_size}

one_more : (files : List File) (file : ℕ) → file < length files → total_size (take (suc file) files) ≡ total_size (take file files) + length (file_at files file).bytes
one_more [] file h = absurd (omega arith)
one_more (f ∷ fs) zero h = omega arith
one_more (f ∷ fs) (suc file) h = let later = one_more fs file (omega arith) in omega (arith, later)

-- with one file more they are more by its size
pub total_next : (files : List File) (file : ℕ) → file < length files → total_size (take (file + 1) files) ≡ total_size (take file files) + length (file_at files file).bytes
total_next files file h =
    let next : file + 1 ≡ suc file = omega arith in
    ap (λ n. total_size (take n files)) next ∙ one_more files file h

-- they are no more than all
pub total_most : (files : List File) (file : ℕ) → total_size (take file files) ≤ total_size files
total_most files zero = omega arith
total_most [] (suc file) = omega arith
total_most (f ∷ fs) (suc file) = let later = total_most fs file in omega (arith, later)

-- the first as many as there are, are all
pub total_all : (files : List File) (file : ℕ) → length files ≤ file → total_size (take file files) ≡ total_size files
total_all [] zero h = refl
total_all [] (suc file) h = refl
total_all (f ∷ fs) zero h = absurd (omega arith)
total_all (f ∷ fs) (suc file) h = ap (λ n. length f.bytes + n) (total_all fs file (omega arith))
