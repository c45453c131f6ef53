-- Mending two blocks.
use Rattle.std.specs.Prelude.{ℕ, ◌<◌, ◌≤◌, List, length, take}
use Rattle.pawk_records.specs.Blocks.{EndsRecord}

-- a head of the text of n bytes: a record ends with it, or it is all
pub record IsHead (rs text : List ℕ) (n : ℕ) : Type 0 where
  pub within : n ≤ length text
  pub ends : n < length text → (0 < n) × EndsRecord rs (take n text)
