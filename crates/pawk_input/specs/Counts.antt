-- How many records begin in each block of the files.
use Rattle.std.specs.Prelude.{ℕ, zero, suc, ◌+◌, ◌-◌, nat_lt, if◌then◌else◌, List, [], ◌∷◌, ◌++◌, length, min}
use Rattle.pawk_records.specs.Begins.{begins_within}
use Rattle.pawk_input.specs.Input.{File}

-- how many records begin in each of at most n blocks of `block` bytes, from place `from` on; the last
-- block may be shorter
abbrev pub counts_along : List ℕ → ℕ → List ℕ → ℕ → ℕ → List ℕ
counts_along rs block bytes from zero = []
counts_along rs block bytes from (suc n) =
    if nat_lt from (length bytes)
    then length (begins_within rs bytes from (min (from + block) (length bytes)))
    ∷ counts_along rs block bytes (from + block) n
    else []

-- in each block from place `from` to the end
abbrev pub counts_left : List ℕ → ℕ → List ℕ → ℕ → List ℕ
counts_left rs block bytes from = counts_along rs block bytes from (length bytes - from)

-- in each block of each file, in order
abbrev pub block_counts : List ℕ → ℕ → List File → List ℕ
block_counts rs block [] = []
block_counts rs block (f ∷ fs) = counts_left rs block f.bytes 0 ++ block_counts rs block fs

-- how many blocks n bytes have, of at most `fuel`
abbrev pub blocks_of : ℕ → ℕ → ℕ → ℕ
blocks_of block n zero = 0
blocks_of block n (suc fuel) = if nat_lt 0 n then 1 + blocks_of block (n - block) fuel else 0
