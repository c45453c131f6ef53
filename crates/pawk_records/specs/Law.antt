-- The records of a file are those of its blocks, once these are mended.
use Rattle.std.specs.Prelude.{◌≡◌, ℕ, List}
use Rattle.std.specs.List.{flat_map}
use Rattle.pawk_records.specs.Records.{records_by}
use Rattle.pawk_records.specs.Begins.{begins_by}
use Rattle.pawk_records.specs.Blocks.{joined, begins_along}

-- the records are the blocks' own in order, and begin where those do
pub record BlocksLaw (rs : List ℕ) (blocks : List (List ℕ)) : Type 0 where
  pub records : records_by rs (joined blocks) ≡ flat_map (records_by rs) blocks
  pub begins : begins_by rs (joined blocks) ≡ begins_along rs 0 blocks
