-- Into how many blocks files are cut.
use Rattle.std.specs.Prelude.{◌≡◌, ℕ, ◌*◌, ◌^◌, ◌<◌, ◌≤◌, List, length, filter, nat_lt, sum_by}
use Rattle.std.specs.Int.{div_ceil}
use Rattle.pawk_input.specs.Input.{File}

-- the size of a block of most inputs
abbrev pub least_size : ℕ
least_size = 65536

-- how many blocks there may be
abbrev pub most_blocks : ℕ
most_blocks = 1048576

-- how many blocks of `block` bytes a file has, the last shorter
abbrev pub file_blocks : ℕ → File → ℕ
file_blocks block f = div_ceil (length f.bytes) block

abbrev pub blocks_in : ℕ → List File → ℕ
blocks_in block files = sum_by (file_blocks block) files

-- the files that hold bytes
abbrev pub filled : List File → List File
filled files = filter (λ f. nat_lt 0 (length f.bytes)) files

-- the least size is doubled until there are no more blocks than there may be
pub record IsBlockSize (files : List File) (size : ℕ) : Type 0 where
  pub doublings : ℕ
  pub doubled : size ≡ least_size * 2 ^ doublings
  pub few : blocks_in size files ≤ most_blocks
  pub least : (k : ℕ) → k < doublings → most_blocks < blocks_in (least_size * 2 ^ k) files
