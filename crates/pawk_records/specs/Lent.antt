-- Blocks that are lent.
use Rattle.std.specs.Prelude.{ℕ, List, [], ◌∷◌}
use Rattle.pawk_records.specs.declared.lent.BlockStorage.{BlockStorage}
use Rattle.pawk_records.specs.declared.lent.BlockStorage.TheVariants as at

-- all of a vector is one block
abbrev pub blocks_at : BlockStorage → List (List ℕ)
blocks_at (at.Vector bytes) = bytes.now ∷ []
blocks_at (at.List blocks) = blocks.now
