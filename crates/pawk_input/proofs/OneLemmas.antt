-- The plan of one chunk, and how many chunks a plan by size has.
use Rattle.std.proofs.Common.{◌≡◌, inl, inr, ℕ, zero, suc, ◌+◌, ◌*◌, ◌<◌, ◌≤◌, ◌/◌, Bool, true, false, cond, List, [], ◌∷◌, length, take, refl, ap, ◌∙◌, arith}
use Rattle.std.proofs.lemmas.Bool.Decides.{leb_tells}
use Rattle.std.proofs.lemmas.List.{append-nil}
use Rattle.std.proofs.Math.Nat.{suc-mul, le-div_iff_mul-le}
use Rattle.pawk_records.specs.Records.{records_by}
use Rattle.pawk_records.specs.Begins.{begins_at, begins_by, places_where}
use Rattle.pawk_input.specs.Input.{File, file_at}
use Rattle.pawk_input.specs.Plan.{IsBeginOrEnd, chunks_at, cut_at, cut_places, places_by_size, places_by_size_from, sized}
use Rattle.pawk_input.proofs.SizeLemmas.{nothing_before}
use Rattle.pawk_input.proofs.CutPlanLemmas.{cut_places_here, no_cut_places}

pub one_file : (files : List File) → length files ≡ 1 → files ≡ file_at files 0 ∷ []
one_file [] h = absurd (omega (arith, h))
one_file (f ∷ []) h = refl
one_file (f ∷ g ∷ fs) h = absurd (omega (arith, h))

module _ (rs : List ℕ) (files : List File) (one : length files ≡ 1) (first : ℕ) (h : IsBeginOrEnd rs (file_at files 0).bytes 0 first) where
  abbrev bytes : List ℕ
  bytes = (file_at files 0).bytes

  abbrev places : List ℕ
  places = cut_places [] 0 (begins_by rs bytes)

  only : cut_at rs files [] ≡ chunks_at rs 0 bytes 0 places
  only = ap (λ l. cut_at rs l []) (one_file files one) ∙ append-nil (chunks_at rs 0 bytes 0 places)

  pub no_chunk : length bytes ≤ first → cut_at rs files [] ≡ []
  no_chunk le = only ∙ ap (chunks_at rs 0 bytes 0) (no_cut_places rs 0 first bytes [] h le)

  pub one_chunk : first < length bytes → cut_at rs files [] ≡ record { file = 0; range = record { start = first; end = length bytes }; nr = 0; fnr = 0 } ∷ []
  one_chunk lt =
      let none : length (records_by rs (take first bytes)) ≡ 0 = ap length (nothing_before rs bytes first h) in
      only ∙ ap (chunks_at rs 0 bytes 0) (cut_places_here rs 0 first bytes [] h lt refl)
      ∙ ap (λ n. record { file = 0; range = record { start = first; end = length bytes }; nr = 0 + n; fnr = n } ∷ []) none

module _ (size : ℕ) (test : ℕ → Bool) where
  nothing : 0 * size ≡ 0
  nothing = omega arith

  one_more : (k : ℕ) → suc k * size ≡ k * size + size
  one_more k = suc-mul k size

  few_from : (from i k : ℕ) → from ≤ i + k → length (places_by_size_from (λ _. size) from (places_where test i k)) * size + from ≤ i + k
  few_from from i zero le = rw nothing (omega arith)
  few_from from i (suc k) le =
      let later = few_from from (i + 1) k (omega arith) in
      let near = few_from i (i + 1) k (omega arith) in
      let rest = places_where test (i + 1) k in
      elim (test i) as (λ v. length (places_by_size_from (λ _. size) from (cond v (i ∷ rest) rest)) * size + from ≤ i + suc k) [
        | true ↦ (elim (leb_tells (from + size) i) [
          | inl far ↦ rw far.0 (omega (arith, near, far.1, one_more (length (places_by_size_from (λ _. size) i rest))))
          | inr not ↦ rw not.0 (omega (arith, later))
        ])
        | false ↦ omega (arith, later)
      ]

  few_places : (i k : ℕ) → length (places_by_size (λ _. size) (places_where test i k)) * size ≤ i + k + size
  few_places i zero = rw nothing (omega arith)
  few_places i (suc k) =
      let later = few_places (i + 1) k in
      let near = few_from i (i + 1) k (omega arith) in
      let rest = places_where test (i + 1) k in
      elim (test i) as (λ v. length (places_by_size (λ _. size) (cond v (i ∷ rest) rest)) * size ≤ i + suc k + size) [
        | true ↦ omega (arith, near, one_more (length (places_by_size_from (λ _. size) i rest)))
        | false ↦ omega (arith, later)
      ]

length-chunks_at : (rs : List ℕ) (file : ℕ) (bytes : List ℕ) (nr : ℕ) (ps : List ℕ) → length (chunks_at rs file bytes nr ps) ≡ length ps
length-chunks_at rs file bytes nr [] = refl
length-chunks_at rs file bytes nr (p ∷ ps) = let later = length-chunks_at rs file bytes nr ps in omega (arith, later)

-- a plan by size of one file has at most one chunk more than the size goes into the file
pub few_chunks : (rs : List ℕ) (files : List File) (size most : ℕ) → length files ≡ 1 → 0 < size → length (file_at files 0).bytes / size < most
    → length (sized rs files size) ≤ most
few_chunks rs files size most one some lt =
    let bytes = (file_at files 0).bytes in
    let n = length bytes in
    let places = places_by_size (λ _. size) (begins_by rs bytes) in
    let only : length (sized rs files size) ≡ length places =
    ap (λ l. length (sized rs l size)) (one_file files one) ∙ ap length (append-nil (chunks_at rs 0 bytes 0 places)) ∙ length-chunks_at rs 0 bytes 0 places in
    omega (arith, only, fits (length places) n lt (few_places size (begins_at rs bytes) 0 n))
  where
    fits : (count n : ℕ) → n / size < most → count * size ≤ 0 + n + size → count ≤ most
    fits zero n lt few = omega arith
    fits (suc k) n lt few =
        let low : k * size ≤ n = omega (arith, suc-mul k size, few) in
        let up : k ≤ n / size = (le-div_iff_mul-le some).1 low in
        omega (arith, lt, up)
