-- What a value of an assignment and the inside of a string write, byte by byte (awk, "OPTIONS", -v: as a STRING token;
-- "Escape Sequences in awk"; XBD 5 "File Format Notation").
use Rattle.std.specs.Prelude.{◌≡◌, ◌≢◌, ◌⊎◌, ◌↔◌, ℕ, ◌+◌, ◌<◌, ◌≤◌, Some, [], ◌∷◌, ◌++◌, codes, length, drop, slice_index}
use Rattle.std.specs.Str.Parse.{IsNumeral, digits_value}
use Rattle.pawk_lex.specs.Bytes.{Text}
use Rattle.pawk_lex.specs.Strings.{string_byte}
use Rattle.pawk_settings.specs.Escapes.{value_text}

-- the letters that stand for the bytes 7 to 13, in this order; a quote, a slash and a backslash are themselves
abbrev pub IsSimple : ℕ → ℕ → Type 0
IsSimple c byte =
    ((i : ℕ) × (i < 7) × (c ≡ slice_index (codes "abtnvfr") i) × (byte ≡ 7 + i))
    ⊎ ((c ≡ byte) × ((c ≡ 34) ⊎ (c ≡ 47) ⊎ (c ≡ 92)))

-- the text begins with octal digits that write the byte, as many as there can be: they are three, or no digit comes next,
-- or with it they write more than a byte
pub record IsOctal (text : Text) (byte : ℕ) (rest : Text) : Type 0 where
  pub digits : Text
  pub spelled : text ≡ digits ++ rest
  pub numeral : IsNumeral 8 digits
  pub few : length digits ≤ 3
  pub value : digits_value 8 digits ≡ byte
  pub small : byte < 256
  pub longest : (c : ℕ) (more : Text) → rest ≡ c ∷ more → IsNumeral 8 (digits ++ c ∷ []) → length digits < 3
      → 256 ≤ digits_value 8 (digits ++ c ∷ [])

-- the text begins with what writes the byte, and the rest follows: the byte itself, or an escape
abbrev pub WritesByte : Text → ℕ → Text → Type 0
WritesByte text byte rest =
    ((text ≡ byte ∷ rest) × (byte ≢ 92))
    ⊎ ((c : ℕ) × (text ≡ 92 ∷ c ∷ rest) × IsSimple c byte)
    ⊎ ((more : Text) × (text ≡ 92 ∷ more) × IsOctal more byte rest)

-- the text is what writes these bytes, one after the other
abbrev pub WritesAll : Text → Text → Type 0
WritesAll text [] = text ≡ []
WritesAll text (byte ∷ bytes) = (rest : Text) × WritesByte text byte rest × WritesAll rest bytes

-- a value stands for the bytes that it writes, and for none where it writes none
abbrev pub ValueLaw : Text → Type 0
ValueLaw text = (bytes : Text) → (value_text text ≡ Some bytes) ↔ WritesAll text bytes

-- neither a quote nor a newline comes next
abbrev pub IsInside : Text → Type 0
IsInside text = (b : ℕ) (z : Text) → text ≡ b ∷ z → (b ≢ 34) × (b ≢ 10)

-- inside a string the next byte is written so too
pub record StringLaw (text : Text) : Type 0 where
  pub read : (byte n : ℕ) → string_byte text ≡ Some (byte, n) → WritesByte text byte (drop n text) × IsInside text
  pub written : (byte : ℕ) (rest : Text) → WritesByte text byte rest → IsInside text → (n : ℕ) × (string_byte text ≡ Some (byte, n)) × (drop n text ≡ rest)
