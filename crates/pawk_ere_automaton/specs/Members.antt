-- Sets of bytes that are kept in bits.
use Rattle.std.specs.Prelude.{ℕ, ◌/◌, ◌%◌, ◌^◌, Bool, List, get_or, map, nat_eq}
use Rattle.std.specs.List.{range_with_len}
use Rattle.pawk_ere_automaton.specs.declared.members.Members.{Members}

-- a bit of a number, counted from the lowest
abbrev pub bit : ℕ → ℕ → Bool
bit octet k = nat_eq (octet / 2 ^ k % 2) 1

-- whether a byte is in the set, of which each number has eight bits
abbrev pub bit_at : List ℕ → ℕ → Bool
bit_at octets byte = bit (get_or octets (byte / 8) 0) (byte % 8)

-- the set as a list of 256 answers
unfoldable pub members_of : Members → List Bool
members_of set = map (bit_at set.octets) (range_with_len 0 256)
