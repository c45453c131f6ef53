-- Which bounds and escapes there are: XBD 9.4.6; XBD 5 and awk, "Escape Sequences in awk".
use Rattle.std.specs.Prelude.{◌≡◌, ℕ, ◌+◌, ◌<◌, ◌≤◌, ◌⊎◌, Option, Some, None, List, [], ◌∷◌, ◌++◌, codes, length, slice_index}
use Rattle.std.specs.Str.Parse.{IsNumeral, digits_value}
use Rattle.pawk_ere_syntax.specs.Limits.{greatest_bound}

-- digits write a number that a bound may have
abbrev pub IsBoundOf : List ℕ → ℕ → Type 0
IsBoundOf ds n = IsNumeral 10 ds × (digits_value 10 ds ≡ n) × (n ≤ greatest_bound)

-- what is after `{` is m}
abbrev pub IsExact : List ℕ → ℕ → Option ℕ → List ℕ → Type 0
IsExact bytes least most rest = (ds : List ℕ) × (bytes ≡ ds ++ 125 ∷ rest) × IsBoundOf ds least × (most ≡ Some least)

-- it is m,}
abbrev pub IsFrom : List ℕ → ℕ → Option ℕ → List ℕ → Type 0
IsFrom bytes least most rest = (ds : List ℕ) × (bytes ≡ ds ++ 44 ∷ 125 ∷ rest) × IsBoundOf ds least × (most ≡ None)

-- it is m,n} with m at most n
abbrev pub IsBetween : List ℕ → ℕ → Option ℕ → List ℕ → Type 0
IsBetween bytes least most rest = (ds es : List ℕ) × (bytes ≡ ds ++ 44 ∷ (es ++ 125 ∷ rest)) × IsBoundOf ds least
    × (n : ℕ) × IsBoundOf es n × (most ≡ Some n) × (least ≤ n)

-- what is after `{` is a bound with these numbers of turns, and the rest follows
abbrev pub IsBound : List ℕ → ℕ → Option ℕ → List ℕ → Type 0
IsBound bytes least most rest = IsExact bytes least most rest ⊎ IsFrom bytes least most rest ⊎ IsBetween bytes least most rest

-- the letters that stand for the bytes 7 to 13, in this order: alert, backspace, tab, newline, vertical tab, form feed, return
abbrev pub IsLetter : ℕ → ℕ → Type 0
IsLetter c byte = (i : ℕ) × (i < 7) × (c ≡ slice_index (codes "abtnvfr") i) × (byte ≡ 7 + i)

-- a printable byte that is no space, no digit and no letter
abbrev pub IsPunctuation : ℕ → Type 0
IsPunctuation b = (33 ≤ b) × (b ≤ 126) × ((b < 48) ⊎ (57 < b)) × ((b < 65) ⊎ (90 < b)) × ((b < 97) ⊎ (122 < b))

-- the text begins with octal digits that write the byte, as many as there can be: they are three, or no digit comes next,
-- or with it they write more than a byte
pub record IsOctal (bytes : List ℕ) (byte : ℕ) (rest : List ℕ) : Type 0 where
  pub digits : List ℕ
  pub text : bytes ≡ digits ++ rest
  pub numeral : IsNumeral 8 digits
  pub few : length digits ≤ 3
  pub value : digits_value 8 digits ≡ byte
  pub small : byte < 256
  pub longest : (c : ℕ) (more : List ℕ) → rest ≡ c ∷ more → IsNumeral 8 (digits ++ c ∷ []) → length digits < 3
      → 256 ≤ digits_value 8 (digits ++ c ∷ [])

-- what is after a backslash is a letter, octal digits, or punctuation, which is itself; and the rest follows
abbrev pub IsEscape : List ℕ → ℕ → List ℕ → Type 0
IsEscape bytes byte rest =
    ((c : ℕ) × (bytes ≡ c ∷ rest) × IsLetter c byte)
    ⊎ IsOctal bytes byte rest
    ⊎ ((bytes ≡ byte ∷ rest) × IsPunctuation byte)
