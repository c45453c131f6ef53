-- The blocks of a file that were passed.
use Rattle.std.specs.Prelude.{◌≡◌, ℕ, ◌≤◌, List, length}
use Rattle.pawk_records.specs.Begins.{begins_at, places_where}
use Rattle.pawk_input.specs.Counts.{counts_left}
use Rattle.pawk_input.specs.declared.counts.Passed.{Passed}

-- the blocks end at a place up to `place`; the count is of the records that begin before it, and the
-- counts from there on are left
pub record IsPassed (rs : List ℕ) (block : ℕ) (bytes : List ℕ) (p : Passed) (place : ℕ) : Type 0 where
  pub low : p.edge ≤ place
  pub count : p.count ≡ length (places_where (begins_at rs bytes) 0 p.edge)
  pub left : p.left.now ≡ counts_left rs block bytes p.edge
