-- The limits on settings.
use Rattle.std.specs.Prelude.{ℕ}

-- the greatest budget
abbrev pub budget_limit : ℕ
budget_limit = 1000000000000
