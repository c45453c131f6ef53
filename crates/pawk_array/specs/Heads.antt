-- The number that the first bytes of a text are.
use Rattle.std.specs.Prelude.{◌<◌, ℕ, List, [], ◌∷◌, get_or}
use Rattle.std.specs.Int.{from_be_bytes, w64}

-- the first eight bytes as a number, the first the highest; missing ones count as 0
abbrev pub head_of : List ℕ → ℕ
head_of text =
    from_be_bytes w64 (get_or text 0 0 ∷ get_or text 1 0 ∷ get_or text 2 0 ∷ get_or text 3 0
    ∷ get_or text 4 0 ∷ get_or text 5 0 ∷ get_or text 6 0 ∷ get_or text 7 0 ∷ [])

abbrev pub AreBytes : List ℕ → Type 0
AreBytes text = (i : ℕ) → get_or text i 0 < 256
