-- How many newlines lie in each of the first segments of a text.
use Rattle.std.specs.Prelude.{◌≡◌, ℕ, ◌+◌, ◌*◌, ◌<◌, ◌≤◌, List, [], ◌∷◌, length, take, drop}
use Rattle.std.specs.List.{count_by}
use Rattle.memchr.specs.Find.{is_byte}
use Rattle.pawk_records.specs.Records.{newline}
use Rattle.pawk_records.specs.declared.census.TheConstants.{SEGMENT}

-- each count is that of a segment of `size` bytes, the first segments of the text in order
abbrev pub CountsSegments : ℕ → List ℕ → List ℕ → Type 0
CountsSegments size [] text = Unit {0}
CountsSegments size (count ∷ counts) text =
    (size ≤ length text) × (count ≡ count_by (is_byte newline) (take size text))
    × CountsSegments size counts (drop size text)

-- the counts are those of the text's first segments
abbrev pub IsCensus : List ℕ → List ℕ → Type 0
IsCensus counts text = CountsSegments SEGMENT counts text

-- no segment of the text is left that was not counted
abbrev pub IsWhole : List ℕ → List ℕ → Type 0
IsWhole counts text = length text < (length counts + 1) * SEGMENT
