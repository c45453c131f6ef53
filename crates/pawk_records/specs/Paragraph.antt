-- How long a paragraph is.
use Rattle.std.specs.Prelude.{ℕ, ◌+◌, ◌==◌, ◌&&◌, if◌then◌else◌, List, [], ◌∷◌}
use Rattle.pawk_records.specs.Records.{newline, ends_line}

-- how many bytes of s are before the end, or before a newline at the end or before another
abbrev pub paragraph_length : List ℕ → ℕ
paragraph_length [] = 0
paragraph_length (b ∷ s) =
    if (b == newline) && ends_line s then 0 else 1 + paragraph_length s
