-- Files that are read as one text, in which carriage returns before newlines are left out.
use Rattle.std.specs.Prelude.{◌≡◌, ℕ, ◌+◌, ◌-◌, ◌<◌, ◌≤◌, List, length, slice_get, nat_lt, count_by}
use Rattle.pawk_explain.specs.Lines.{place_in_files}

-- The text was read from these bytes, with carriage returns left out at these places of it: the bytes are as many more
-- as were left out, all within the text, and each byte of the text is in the bytes at the place that is given for it.
pub record IsReadFrom (bytes text places : List ℕ) : Type 0 where
  pub count : length bytes ≡ length text + length places
  pub within : (place : ℕ) → length text < place →
      count_by (λ d. nat_lt d place) places ≡ length places
  pub same : (place : ℕ) → 0 < place → place ≤ length text →
      slice_get bytes (place_in_files places place - 1) ≡ slice_get text (place - 1)
