-- The limit on fields.
use Rattle.std.specs.Prelude.{ℕ}

-- the greatest index of a field
abbrev pub greatest_field : ℕ
greatest_field = 32767
