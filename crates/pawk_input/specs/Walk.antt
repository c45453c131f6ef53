-- A walk over records.
use Rattle.std.specs.Prelude.{ℕ, ◌+◌, List, [], ◌∷◌, ◌++◌, length}
use Rattle.std.specs.List.{flat_map}
use Rattle.pawk_records.specs.Records.{records_by}
use Rattle.pawk_input.specs.Input.{FileInBlocks, Item, file_items}

-- the records that a walk has left, in order: a contract sees the walk as just that list
abbrev pub items_left : List Item → List Item
items_left walk = walk

-- the records of blocks, each by itself
abbrev pub block_records : List ℕ → List (List ℕ) → List (List ℕ)
block_records rs blocks = flat_map (records_by rs) blocks

-- the records of the blocks of files, of which the first is at place `file` and before which nr
-- records came
abbrev pub items_in_blocks : List ℕ → ℕ → ℕ → List FileInBlocks → List Item
items_in_blocks rs file nr [] = []
items_in_blocks rs file nr (f ∷ fs) =
    file_items file f.name nr 0 (block_records rs f.blocks)
    ++ items_in_blocks rs (file + 1) (nr + length (block_records rs f.blocks)) fs

-- the records of the pieces that are left of a file, and those of the files after it
abbrev pub items_ahead : List ℕ → ℕ → List ℕ → ℕ → ℕ → List (List ℕ) → List FileInBlocks → List Item
items_ahead rs file name nr fnr pieces later =
    file_items file name nr fnr (block_records rs pieces)
    ++ items_in_blocks rs (file + 1) (nr + length (block_records rs pieces)) later
