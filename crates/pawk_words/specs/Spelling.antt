-- The notation in plain terms: which bytes spell a word.
use Rattle.std.specs.Prelude.{◌≡◌, ◌<◌, ℕ, ◌+◌, ◌-◌, ◌*◌, pos, negsuc, List, [], ◌∷◌, ◌++◌, length, slice_index, fold}
use Rattle.std.specs.Char.{is_ascii_digit}
use Rattle.pawk_words.specs.Words.{Word, name, number, text, AllAre}

-- the number that digits write
abbrev pub digits_value : List ℕ → ℕ
digits_value ds = fold (λ n d. 10 * n + (d - 48)) 0 ds

-- digits write the number, and none of them is a zero in front, but where they are `0`
pub record IsNumeral (ds : List ℕ) (n : ℕ) : Type 0 where
  pub digits : AllAre is_ascii_digit ds
  pub some : 0 < length ds
  pub lead : slice_index ds 0 ≡ 48 → ds ≡ 48 ∷ []
  pub value : digits_value ds ≡ n

-- the bytes spell the word: its letters; a numeral, a minus before it where the number is below 0;
-- or a numeral, a colon, and as many bytes as the numeral says
abbrev pub Spells : List ℕ → Word → Type 0
Spells s (name letters) = s ≡ letters
Spells s (number (pos n)) = IsNumeral s n
Spells s (number (negsuc n)) = (ds : List ℕ) × (s ≡ 45 ∷ ds) × IsNumeral ds (n + 1)
Spells s (text bytes) = (ds : List ℕ) × (s ≡ ds ++ 58 ∷ bytes) × IsNumeral ds (length bytes)
