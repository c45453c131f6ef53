-- How large a board may be.
use Rattle.std.specs.Prelude.{ℕ, ◌≤◌}

-- the greatest count of chunks
abbrev pub most_chunks : ℕ
most_chunks = 1048576

-- the greatest count of seats
abbrev pub most_workers : ℕ
most_workers = 64

-- a number of workers that may be asked for
abbrev pub IsCrew : ℕ → Type 0
IsCrew workers = (1 ≤ workers) × (workers ≤ most_workers)
