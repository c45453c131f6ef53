-- How much an input and a plan may hold.
use Rattle.std.specs.Prelude.{ℕ}

-- the most bytes that the files of an input hold together
abbrev pub most_bytes : ℕ
most_bytes = 4611686018427387904

-- the most chunks of a plan
abbrev pub most_chunks : ℕ
most_chunks = 1048576
