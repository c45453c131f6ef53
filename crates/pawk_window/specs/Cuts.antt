-- Where bytes may be cut, whatever follows. POSIX.1-2017, awk, "Variables and Special Variables" (RS).
use Rattle.std.specs.Prelude.{◌≡◌, ℕ, ◌-◌, ◌<◌, ◌≤◌, List, [], ◌∷◌, ◌++◌, length, take, drop, slice_index}
use Rattle.pawk_records.specs.Records.{newline, records_by}

-- Whatever follows, the first p bytes are whole records: the records of all bytes are theirs, and then those of the rest.
pub record MayCut (rs bytes : List ℕ) (p : ℕ) : Type 0 where
  pub within : p ≤ length bytes
  pub parts : (more : List ℕ) →
      records_by rs (bytes ++ more) ≡ records_by rs (take p bytes) ++ records_by rs (drop p bytes ++ more)

-- the first p bytes end with the separator; where RS is empty, with two newlines
abbrev pub EndsAt : List ℕ → List ℕ → ℕ → Type 0
EndsAt [] bytes p =
    (1 < p) × (p ≤ length bytes) × (slice_index bytes (p - 2) ≡ newline) × (slice_index bytes (p - 1) ≡ newline)
EndsAt (separator ∷ rs) bytes p = (0 < p) × (p ≤ length bytes) × (slice_index bytes (p - 1) ≡ separator)

-- no record of these bytes has ended
abbrev pub NoneEnds : List ℕ → List ℕ → Type 0
NoneEnds rs bytes = (p : ℕ) → ¬ EndsAt rs bytes p
