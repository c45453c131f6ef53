-- Places of a text, counted from 1.
use Rattle.std.specs.Prelude.{ℕ, ℤ, pos, negsuc, ◌-◌, min}

-- how many of n bytes are before a place
abbrev pub before : ℤ → ℕ → ℕ
before (pos n) count = min (n - 1) count
before (negsuc n) count = 0
