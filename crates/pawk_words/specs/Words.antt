-- The words of table files, and how they are written, to the byte.
use Rattle.std.specs.Prelude.{◌≡◌, ◌≤◌, ◌<◌, ℕ, Bool, true, ℤ, unsigned_abs, List, [], ◌∷◌, ◌++◌, length}
use Rattle.std.specs.Char.{is_ascii_lowercase}
use Rattle.std.specs.Fmt.{decimal, signed_decimal}
use Rattle.pawk_words.specs.declared.word.Word.{Word as Lent}
use Rattle.pawk_words.specs.declared.word.Word.TheVariants as lent
use Rattle.pawk_words.specs.declared.word.Gap.{Gap}
use Rattle.pawk_words.specs.declared.word.Gap.TheVariants.{Space, Newline}

-- ---- limits

-- the greatest size of a number, and the most bytes of a text
abbrev pub size_limit : ℕ
size_limit = 18446744073709551616

-- the most letters of a name
abbrev pub name_limit : ℕ
name_limit = 16

-- ---- words

pub data Word : Type 0 where
  name : List ℕ → Word
  number : ℤ → Word
  text : List ℕ → Word

-- the word that a word of the program shows
abbrev pub shown : Lent → Word
shown (lent.Name letters) = name letters.now
shown (lent.Number z) = number z
shown (lent.Text bytes) = text bytes.now

-- each byte passes the test
abbrev pub AllAre : (ℕ → Bool) → List ℕ → Type 0
AllAre p [] = Unit {0}
AllAre p (b ∷ bs) = (p b ≡ true) × AllAre p bs

-- lower-case letters, `a` to `z`
pub record IsName (bytes : List ℕ) : Type 0 where
  pub letters : AllAre is_ascii_lowercase bytes
  pub some : 0 < length bytes
  pub short : length bytes ≤ name_limit

abbrev pub IsWord : Word → Type 0
IsWord (name letters) = IsName letters
IsWord (number z) = unsigned_abs z ≤ size_limit
IsWord (text bytes) = length bytes ≤ size_limit

-- ---- how they are written

-- a name as it is; a number in decimal; a text as its length in decimal, a colon and its bytes
abbrev pub written_word : Word → List ℕ
written_word (name letters) = letters
written_word (number z) = signed_decimal z
written_word (text bytes) = decimal (length bytes) ++ 58 ∷ bytes

-- a space, or a newline, which ends the line
abbrev pub gap_byte : Gap → ℕ
gap_byte Space = 32
gap_byte Newline = 10

-- a word and the gap after it
abbrev pub written : Word → Gap → List ℕ
written w g = written_word w ++ gap_byte g ∷ []

abbrev pub written_all : List (Word × Gap) → List ℕ
written_all [] = []
written_all (x ∷ xs) = written x.0 x.1 ++ written_all xs

abbrev pub AreWords : List (Word × Gap) → Type 0
AreWords [] = Unit {0}
AreWords (x ∷ xs) = IsWord x.0 × AreWords xs

-- the bytes begin with the word and the gap, and `rest` follows
pub record Begins (bytes : List ℕ) (w : Word) (g : Gap) (rest : List ℕ) : Type 0 where
  pub word : IsWord w
  pub front : bytes ≡ written w g ++ rest
