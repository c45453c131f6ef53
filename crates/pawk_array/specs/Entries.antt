-- What an array holds (POSIX.1-2017, awk, "Variables and Special Variables": an element has a text as its subscript, and one
-- that was never assigned is uninitialised). The elements are in the order of the bytes of their keys.
use Rattle.std.specs.Prelude.{ℕ, ◌+◌, List, [], ◌∷◌, Option, slice_range}
use Rattle.std.specs.Option.{unwrap_or}
use Rattle.std.specs.Fmt.{decimal}
use Rattle.std.specs.declared.ops.Range.{Range}
use Rattle.pawk_value.specs.Value.{Val, Uninit, Maybe}
use Rattle.pawk_keyed_map.specs.Keyed.{Keyed, put, touched_by}
pub use Rattle.pawk_keyed_map.specs.Keyed.{order, Rise, found, put, without, keys}

abbrev pub Entries : Type 0
Entries = Keyed Val

-- what an element has that may be missing
abbrev pub value_of : Option Val → Val
value_of o = unwrap_or o Uninit

-- with an element at a key: the one that is there, or else a new one, uninitialised
abbrev pub touched : List ℕ → Entries → Entries
touched = touched_by Uninit

-- with the pieces of a text that these ranges are, as candidates, at the keys of the numbers after this one
abbrev pub with_pieces : ℕ → List ℕ → List (Range ℕ) → Entries → Entries
with_pieces n text [] es = es
with_pieces n text (r ∷ rs) es = with_pieces (n + 1) text rs (put (decimal (n + 1)) (Maybe (slice_range text r.start r.end)) es)

-- the pieces at the keys `1`, `2`, ..
abbrev pub pieces_of : List ℕ → List (Range ℕ) → Entries
pieces_of text rs = with_pieces 0 text rs []
