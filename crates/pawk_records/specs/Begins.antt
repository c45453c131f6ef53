-- The places at which the records of a file begin, counted from 0.
use Rattle.std.specs.Prelude.{◌≡◌, ℕ, zero, suc, ◌+◌, ◌-◌, ◌<◌, ◌↔◌, Bool, true, not, ◌==◌}
use Rattle.std.specs.Prelude.{◌||◌, ◌&&◌, if◌then◌else◌, List, [], ◌∷◌, slice_index, slice_range, get_or, length, Contains}
use Rattle.std.specs.List.Sorted.{IsStrictlyIncreasing}
use Rattle.pawk_records.specs.Records.{newline, records_by}

-- whether place p is the first, or a byte before it is b
abbrev pub is_after : ℕ → List ℕ → ℕ → Bool
is_after b bytes p = (p == 0) || (slice_index bytes (p - 1) == b)

-- Whether a record begins at place p: at the first byte and after each separator; in paragraph
-- mode at a byte that is no newline and follows two, or as many as there are bytes before it.
abbrev pub begins_at : List ℕ → List ℕ → ℕ → Bool
begins_at [] bytes p =
    is_after newline bytes p && is_after newline bytes (p - 1)
    && not (slice_index bytes p == newline)
begins_at (separator ∷ rs) bytes p = is_after separator bytes p

-- a record begins at place p
abbrev pub BeginsAt : List ℕ → List ℕ → ℕ → Type 0
BeginsAt rs bytes p = begins_at rs bytes p ≡ true

-- which of the n places from `from` on pass the test
abbrev pub places_where : (ℕ → Bool) → ℕ → ℕ → List ℕ
places_where test from zero = []
places_where test from (suc n) =
    if test from then from ∷ places_where test (from + 1) n else places_where test (from + 1) n

-- the places at which records begin
abbrev pub begins_by : List ℕ → List ℕ → List ℕ
begins_by rs bytes = places_where (begins_at rs bytes) 0 (length bytes)

-- those from place i up to place j
abbrev pub begins_within : List ℕ → List ℕ → ℕ → ℕ → List ℕ
begins_within rs bytes i j = places_where (begins_at rs bytes) i (j - i)

-- the begins are just the places within the bytes at which a record begins, they rise, there are as
-- many as records, and the bytes from the k-th on are those of the k-th record
pub record BeginsLaw (rs bytes : List ℕ) : Type 0 where
  pub just : (p : ℕ) → Contains (begins_by rs bytes) p ↔ ((p < length bytes) × BeginsAt rs bytes p)
  pub rising : IsStrictlyIncreasing (begins_by rs bytes)
  pub count : length (begins_by rs bytes) ≡ length (records_by rs bytes)
  pub standing : (k : ℕ) → k < length (records_by rs bytes)
      → let begin = get_or (begins_by rs bytes) k 0 in
      let record_k = get_or (records_by rs bytes) k [] in
      slice_range bytes begin (begin + length record_k) ≡ record_k
