-- The limits of expressions.
use Rattle.std.specs.Prelude.{ℕ}

-- the greatest bound of a repetition: RE_DUP_MAX
abbrev pub greatest_bound : ℕ
greatest_bound = 255

-- the greatest size of an expression, with its bounds written out
abbrev pub greatest_size : ℕ
greatest_size = 4096
