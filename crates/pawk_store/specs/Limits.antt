-- The limits of a run.
use Rattle.std.specs.Prelude.{ℕ}

-- the most calls of functions inside each other
abbrev pub greatest_calls : ℕ
greatest_calls = 200
