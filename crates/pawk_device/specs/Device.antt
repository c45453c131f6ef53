-- What a call of a device reports.
use Rattle.std.specs.Prelude.{◌≡◌, ℕ, zero, suc, ◌<◌, List, [], ◌∷◌, Result, Ok, Err}

-- the count of failures rises where the read fails, and stays else
abbrev pub CountsRead : {E : Type 0} → ℕ → ℕ → Result ℕ E → Type 0
CountsRead old new (Ok n) = new ≡ old
CountsRead old new (Err e) = old < new

-- the same of a write; one that takes nothing of some bytes is a failure too
abbrev pub CountsWrite : {E : Type 0} → ℕ → ℕ → List ℕ → Result ℕ E → Type 0
CountsWrite old new [] (Ok n) = new ≡ old
CountsWrite old new (b ∷ bs) (Ok zero) = old < new
CountsWrite old new (b ∷ bs) (Ok (suc n)) = new ≡ old
CountsWrite old new bs (Err e) = old < new

-- the same of a call that gives no count
abbrev pub CountsFailure : {X E : Type 0} → ℕ → ℕ → Result X E → Type 0
CountsFailure old new (Ok x) = new ≡ old
CountsFailure old new (Err e) = old < new
