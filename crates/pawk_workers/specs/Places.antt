-- Where a block lies.
use Rattle.std.specs.Prelude.{◌≡◌, ℕ, ◌+◌, ◌<◌, ◌≤◌, List, length, take}
use Rattle.pawk_input.specs.Input.{File, file_at}
use Rattle.pawk_workers.specs.Sizes.{file_blocks, blocks_in}
use Rattle.pawk_workers.specs.declared.place.FilePlace.{FilePlace}

-- the place is at a file or past the last one, and knows how many blocks lie before it
pub record IsPlace (block : ℕ) (files : List File) (p : FilePlace) : Type 0 where
  pub within : p.file ≤ length files
  pub before : p.before ≡ blocks_in block (take p.file files)

-- the block of this number lies in the file of the place
pub record HasBlock (block : ℕ) (files : List File) (n : ℕ) (p : FilePlace) : Type 0 where
  pub exists : p.file < length files
  pub before : p.before ≡ blocks_in block (take p.file files)
  pub low : p.before ≤ n
  pub high : n < p.before + file_blocks block (file_at files p.file)
