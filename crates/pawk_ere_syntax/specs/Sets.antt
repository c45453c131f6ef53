-- Sets of bytes: a list of 256 answers, one for each byte.
use Rattle.std.specs.Prelude.{◌≡◌, ℕ, ◌≤◌, ◌⊎◌, ◌||◌, ◌&&◌, Bool, true, false, not, List, [], ◌∷◌, nat_le, map, get_or, slice_set, replicate}
use Rattle.std.specs.List.{range_with_len}
use Rattle.pawk_ere_syntax.specs.Pattern.{Holds}

-- the byte is in the set, and no other is
abbrev pub IsOnlyMember : List Bool → ℕ → Type 0
IsOnlyMember members byte = Holds members byte × ((b : ℕ) → Holds members b → b ≡ byte)

-- the set of no byte
unfoldable pub none : List Bool
none = replicate 256 false

-- the set of all bytes
unfoldable pub all_bytes : List Bool
all_bytes = replicate 256 true

-- the set of one byte
unfoldable pub only : ℕ → List Bool
only byte = slice_set (replicate 256 false) byte true

-- whether a byte is in a set or from low to high
abbrev pub in_either : List Bool → ℕ → ℕ → ℕ → Bool
in_either members low high byte = get_or members byte false || (nat_le low byte && nat_le byte high)

-- the set with the bytes from low to high added
unfoldable pub with_range : ℕ → ℕ → List Bool → List Bool
with_range low high members = map (in_either members low high) (range_with_len 0 256)

-- the set with each of these ranges added
abbrev pub with_ranges : List (ℕ × ℕ) → List Bool → List Bool
with_ranges [] members = members
with_ranges (r ∷ rs) members = with_ranges rs (with_range r.0 r.1 members)

abbrev pub not_in : List Bool → ℕ → Bool
not_in members byte = not (get_or members byte false)

-- the bytes that are not in the set
unfoldable pub complement : List Bool → List Bool
complement members = map (not_in members) (range_with_len 0 256)

-- the byte is in one of the ranges, of which both ends are included
abbrev pub InSome : List (ℕ × ℕ) → ℕ → Type 0
InSome [] byte = ⊥
InSome (r ∷ rs) byte = ((r.0 ≤ byte) × (byte ≤ r.1)) ⊎ InSome rs byte
