-- The limits on numbers and texts.
use Rattle.std.specs.Prelude.{ℕ, ◌^◌}

-- the greatest length of a text that is made, in bytes
abbrev pub length_limit : ℕ
length_limit = 16777216

-- the least number is minus this, and the greatest is one less
abbrev pub number_limit : ℕ
number_limit = 2 ^ 63
