-- The pieces of the code, at the keys `1`, `2`, ..
use Rattle.std.specs.Prelude.{◌≡◌, ◌+◌, ◌<◌, ◌≤◌, ◌⊎◌, ℕ, List, [], ◌∷◌, length, get_or}
use Rattle.std.specs.Fmt.{decimal}
use Rattle.std.specs.declared.ops.Range.{Range}
use Rattle.pawk_value.specs.Value.{Maybe}
use Rattle.pawk_array.specs.Texts.{AreWithin}
use Rattle.pawk_array.specs.Entries.{Entries, put}

-- with these texts, as candidates, at the keys of the numbers after this one
abbrev pub with_texts : ℕ → List (List ℕ) → Entries → Entries
with_texts n [] es = es
with_texts n (t ∷ ts) es = with_texts (n + 1) ts (put (decimal (n + 1)) (Maybe t) es)

-- the numbers from 1 on, in decimal digits
abbrev pub AreNumbers : List (List ℕ) → Type 0
AreNumbers ns = (i : ℕ) (d : List ℕ) → i < length ns → get_or ns i d ≡ decimal (i + 1)

-- the ranges lie in the text, and each has its number
pub record ArePieces (text : List ℕ) (rs : List (Range ℕ)) (ns : List (List ℕ)) : Type 0 where
  pub within : AreWithin text rs
  pub numbers : AreNumbers ns
  pub enough : length rs ≤ length ns

-- an array has pieces of a text or pairs of a map, and not both
abbrev pub AreApart : {A : Type 0} → List (List ℕ) → List A → Type 0
AreApart ps es = (ps ≡ []) ⊎ (es ≡ [])
