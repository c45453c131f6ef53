-- What reading a word says of the bytes.
use Rattle.std.specs.Prelude.{◌≡◌, ◌≢◌, ◌≤◌, ◌<◌, ℕ, ◌+◌, false, List, [], ◌∷◌, ◌++◌, length, take, drop, slice_index, Option, Some, None, Result, Ok, Err}
use Rattle.std.specs.Char.{is_ascii_digit}
use Rattle.std.specs.Fmt.{decimal}
use Rattle.std.specs.List.{prefix_len}
use Rattle.pawk_words.specs.declared.word.Word.{Word as Lent}
use Rattle.pawk_words.specs.declared.word.Gap.{Gap}
use Rattle.pawk_words.specs.declared.read.ReadWord.{ReadWord}
use Rattle.pawk_words.specs.declared.read.Damage.{Damage}
use Rattle.pawk_words.specs.Words.{Word, text, shown, gap_byte, size_limit, Begins}
use Rattle.pawk_words.specs.Spelling.{digits_value}

-- ---- the answers

-- a word with its gap takes the first `count` bytes
pub record IsInFront (bytes : List ℕ) (w : Word) (g : Gap) (count : ℕ) : Type 0 where
  pub some : 0 < count
  pub within : count ≤ length bytes
  pub begins : Begins bytes w g (drop count bytes)

-- no word with its gap begins the bytes, but one begins some bytes that go on from them
pub record IsCutShort (bytes : List ℕ) : Type 0 where
  pub none : (w : Word) (g : Gap) (rest : List ℕ) → ¬ Begins bytes w g rest
  pub more : List ℕ
  pub word : Word
  pub gap : Gap
  pub rest : List ℕ
  pub begins : Begins (bytes ++ more) word gap rest

-- whatever comes after the bytes, no word begins there
abbrev pub IsDamaged : List ℕ → Type 0
IsDamaged bytes = (more : List ℕ) (w : Word) (g : Gap) (rest : List ℕ) → ¬ Begins (bytes ++ more) w g rest

abbrev pub Reads : List ℕ → Result (Option ReadWord) Damage → Type 0
Reads bytes (Ok (Some found)) = IsInFront bytes (shown found.word) found.gap found.length
Reads bytes (Ok None) = IsCutShort bytes
Reads bytes (Err e) = IsDamaged bytes

-- ---- the parts of the reader

-- whatever comes after the bytes, no number in decimal and then a byte that is no digit begin there
abbrev pub IsNoDecimalFront : List ℕ → Type 0
IsNoDecimalFront bytes = (more : List ℕ) (n c : ℕ) (rest : List ℕ) →
    n ≤ size_limit → is_ascii_digit c ≡ false → bytes ++ more ≢ decimal n ++ c ∷ rest

-- the digits in front of the bytes, up to the end or a byte that is none, may be those of a number
pub record IsDecimalFront (bytes : List ℕ) (count size : ℕ) : Type 0 where
  pub longest : count ≡ prefix_len is_ascii_digit bytes
  pub within : count ≤ length bytes
  pub some : count ≡ 0 → bytes ≡ []
  pub lead : slice_index bytes 0 ≡ 48 → count ≡ 1
  pub value : size ≡ digits_value (take count bytes)
  pub small : size ≤ size_limit

-- the word took `taken` bytes, and is read with the gap in front of the rest
abbrev pub ReadsGap : Lent → ℕ → List ℕ → Result (Option ReadWord) Damage → Type 0
ReadsGap w taken rest (Ok (Some found)) =
    (found.word ≡ w) × (found.length ≡ taken + 1) × (0 < length rest) × (slice_index rest 0 ≡ gap_byte found.gap)
ReadsGap w taken rest (Ok None) = rest ≡ []
ReadsGap w taken rest (Err e) = (0 < length rest) × ((g : Gap) → slice_index rest 0 ≢ gap_byte g)

-- a text of `size` bytes, whose length and colon took `taken` bytes, is read with the gap after it
abbrev pub ReadsText : ℕ → ℕ → List ℕ → Result (Option ReadWord) Damage → Type 0
ReadsText taken size bytes (Ok (Some found)) =
    (size < length bytes) × (shown found.word ≡ text (take size bytes)) × (found.length ≡ taken + size + 1)
    × (slice_index bytes size ≡ gap_byte found.gap)
ReadsText taken size bytes (Ok None) = length bytes ≤ size
ReadsText taken size bytes (Err e) = (size < length bytes) × ((g : Gap) → slice_index bytes size ≢ gap_byte g)
