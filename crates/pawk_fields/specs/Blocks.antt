-- Blocks of a text, and their blanks as bits of a number.
use Rattle.std.specs.Prelude.{ℕ, ◌+◌, ◌*◌, ◌++◌, if◌then◌else◌, List, [], ◌∷◌, drop, take}
use Rattle.pawk_value.specs.Bytes.{is_blank}

-- a bit for each byte, the first one lowest; it is set where the byte is a blank
abbrev pub blank_bits : List ℕ → ℕ
blank_bits [] = 0
blank_bits (b ∷ s) = (if is_blank b then 1 else 0) + 2 * blank_bits s

-- the block of a text from a place on: 32 bytes, or those that are left and a space after them
abbrev pub block_from : List ℕ → ℕ → List ℕ
block_from s place = take 32 (drop place s ++ 32 ∷ [])
