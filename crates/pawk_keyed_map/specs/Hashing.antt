-- The hash of keys.
use Rattle.std.specs.Prelude.{ℕ, zero, suc, ◌+◌, ◌-◌, ◌*◌, ◌/◌, ◌%◌, ◌^◌, List, length, if◌then◌else◌, nat_le, nat_lt, slice_index, bit_and, bit_or, bit_xor}
use Rattle.pawk_keyed_map.specs.declared.hasher.KeyHasher.{KeyHasher}

-- the two halves of the 128 bits of a product, joined
unfoldable pub folded_product : ℕ → ℕ → ℕ
folded_product a b = bit_xor (bit_and (a * b) (2 ^ 64 - 1)) (a * b / 2 ^ 64)

-- the four bytes from a place on, the lowest first
unfoldable pub half_word : List ℕ → ℕ → ℕ
half_word bs i = slice_index bs i + slice_index bs (i + 1) * 256 + slice_index bs (i + 2) * 65536 + slice_index bs (i + 3) * 16777216

-- a number moved up by so many of 64 bits
abbrev pub moved_up : ℕ → ℕ → ℕ
moved_up x by = (x * 2 ^ by) % 2 ^ 64

-- the eight bytes from a place on, the lowest first
unfoldable pub word : List ℕ → ℕ → ℕ
word bs i = bit_or (half_word bs i) (moved_up (half_word bs (i + 4)) 32)

-- up to eight bytes as one number
unfoldable pub short_word : List ℕ → ℕ
short_word bs =
    let n = length bs in
    if nat_le 4 n then bit_or (half_word bs 0) (moved_up (half_word bs (n - 4)) 32)
    else (if nat_lt 0 n then bit_or (bit_or (slice_index bs 0) (moved_up (slice_index bs (n / 2)) 8)) (moved_up (slice_index bs (n - 1)) 16) else 0)

-- the state with a word joined to it
abbrev pub joined : ℕ → ℕ → ℕ → ℕ
joined factor state w = folded_product (bit_xor state w) factor

-- the state after the first n words
unfoldable pub after_first : ℕ → ℕ → List ℕ → ℕ → ℕ
after_first factor state bs zero = state
after_first factor state bs (suc n) = joined factor (after_first factor state bs n) (word bs (8 * n))

-- the state after all words
unfoldable pub after_words : ℕ → ℕ → List ℕ → ℕ
after_words factor state bs =
    let n = length bs in
    if nat_le n 8 then joined factor state (short_word bs)
    else joined factor (after_first factor state bs ((n - 1) / 8)) (word bs (n - 8))

-- the hash after these bytes and their number
unfoldable pub write : KeyHasher → List ℕ → KeyHasher
write h bs = record { state = joined h.factor (after_words h.factor h.state bs) (length bs); factor = h.factor }

abbrev pub finish : KeyHasher → ℕ
finish h = h.state
