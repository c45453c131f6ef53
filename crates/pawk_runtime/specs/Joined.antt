-- Texts that are joined.
use Rattle.std.specs.Prelude.{ℕ, List, [], ◌∷◌}

-- the first text, or an empty one
abbrev pub first_of : List (List ℕ) → List ℕ
first_of [] = []
first_of (t ∷ ts) = t
