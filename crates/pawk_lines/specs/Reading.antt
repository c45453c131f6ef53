-- What reading a line says of the bytes.
use Rattle.std.specs.Prelude.{◌≡◌, ◌≢◌, ◌≤◌, ◌<◌, ℕ, ℤ, pos, negsuc, List, [], ◌∷◌, ◌++◌, length, drop, true, Bool}
use Rattle.std.specs.List.{Contains}
use Rattle.std.specs.Char.{is_ascii_digit}
use Rattle.std.specs.Fmt.{decimal, signed_decimal}
use Rattle.pawk_words.specs.declared.word.Gap.{Gap}
use Rattle.pawk_words.specs.Words.{Word, number, text, written_all}
use Rattle.pawk_lines.specs.declared.failure.Failure.{Failure}
use Rattle.pawk_lines.specs.declared.failure.Failure.TheVariants.{Short, Damage}
use Rattle.pawk_lines.specs.declared.name.Name.{Name}
use Rattle.pawk_lines.specs.Lines.{Line, Mark, IsLine, IsMark, IsText, line_words, mark_words, BeginsLine}
use Rattle.pawk_lines.specs.Names.{name_words}

-- ---- the answers

-- a line takes the first `count` bytes
pub record IsInFront (bytes : List ℕ) (l : Line) (count : ℕ) : Type 0 where
  pub some : 0 < count
  pub within : count ≤ length bytes
  pub begins : BeginsLine bytes l (drop count bytes)

-- no line begins the bytes, but one begins some bytes that go on from them
pub record IsCutShort (bytes : List ℕ) : Type 0 where
  pub none : (l : Line) (rest : List ℕ) → ¬ BeginsLine bytes l rest
  pub more : List ℕ
  pub line : Line
  pub rest : List ℕ
  pub begins : BeginsLine (bytes ++ more) line rest

-- whatever comes after the bytes, no line begins there
abbrev pub IsDamaged : List ℕ → Type 0
IsDamaged bytes = (more : List ℕ) (l : Line) (rest : List ℕ) → ¬ BeginsLine (bytes ++ more) l rest

-- ---- what is read in turn: words of one kind

-- none of these words begin the bytes, but the bytes begin some of them
pub record IsCut (Wanted : List (Word × Gap) → Type 0) (bytes : List ℕ) : Type 0 where
  pub none : (ws : List (Word × Gap)) (rest : List ℕ) → Wanted ws → bytes ≢ written_all ws ++ rest
  pub words : List (Word × Gap)
  pub more : List ℕ
  pub wanted : Wanted words
  pub whole : bytes ++ more ≡ written_all words

-- whatever comes after the bytes, none of these words begin there
abbrev pub IsWrong : (List (Word × Gap) → Type 0) → List ℕ → Type 0
IsWrong Wanted bytes = (more : List ℕ) (ws : List (Word × Gap)) (rest : List ℕ) → Wanted ws → bytes ++ more ≢ written_all ws ++ rest

abbrev pub Fails : (List (Word × Gap) → Type 0) → List ℕ → Failure → Type 0
Fails Wanted bytes Short = IsCut Wanted bytes
Fails Wanted bytes Damage = IsWrong Wanted bytes

-- the first bytes are not there: the bytes end within them, or have others
abbrev pub FailsAfter : List ℕ → List ℕ → Failure → Type 0
FailsAfter first bytes Short = ((rest : List ℕ) → bytes ≢ first ++ rest) × (more : List ℕ) × (first ≡ bytes ++ more)
FailsAfter first bytes Damage = (more rest : List ℕ) → bytes ++ more ≢ first ++ rest

-- how far a number is from 0
abbrev pub IsWithin : ℕ → ℕ → ℤ → Type 0
IsWithin below above (pos n) = n ≤ above
IsWithin below above (negsuc n) = n < below

-- one number, one text, one of the names
abbrev pub Numbers : ℕ → ℕ → Gap → List (Word × Gap) → Type 0
Numbers below above gap ws = (z : ℤ) × IsWithin below above z × (ws ≡ (number z, gap) ∷ [])

abbrev pub Texts : Gap → List (Word × Gap) → Type 0
Texts gap ws = (t : List ℕ) × IsText t × (ws ≡ (text t, gap) ∷ [])

abbrev pub OneOf : List Name → List (Word × Gap) → Type 0
OneOf names ws = (n : Name) × Contains names n × (ws ≡ name_words n)

-- the words of a line, of a mark
abbrev pub Lines : List (Word × Gap) → Type 0
Lines ws = (l : Line) × IsLine l × (line_words l ≡ ws)

abbrev pub Marks : List (Word × Gap) → Type 0
Marks ws = (m : Mark) × IsMark m × (mark_words m ≡ ws)

-- what follows the name, in a line or in a mark
abbrev pub AfterLine : Name → List (Word × Gap) → Type 0
AfterLine n ws = (l : Line) × IsLine l × (line_words l ≡ name_words n ++ ws)

abbrev pub AfterMark : Name → List (Word × Gap) → Type 0
AfterMark n ws = (m : Mark) × IsMark m × (mark_words m ≡ name_words n ++ ws)

-- after the name come the words of the line, and then the rest
pub record IsLineAfter (n : Name) (bytes : List ℕ) (l : Line) (rest : List ℕ) : Type 0 where
  pub line : IsLine l
  pub words : List (Word × Gap)
  pub is : line_words l ≡ name_words n ++ words
  pub front : bytes ≡ written_all words ++ rest

pub record IsMarkAfter (n : Name) (bytes : List ℕ) (m : Mark) (rest : List ℕ) : Type 0 where
  pub mark : IsMark m
  pub words : List (Word × Gap)
  pub is : mark_words m ≡ name_words n ++ words
  pub front : bytes ≡ written_all words ++ rest

-- the bytes are the first of a number in decimal, at most this one
abbrev pub BeginsDecimal : List ℕ → ℕ → Type 0
BeginsDecimal bytes greatest = (n : ℕ) × (n ≤ greatest) × (more : List ℕ) × (decimal n ≡ bytes ++ more)

-- or of one above 0
abbrev pub BeginsSize : List ℕ → ℕ → Type 0
BeginsSize bytes greatest = (n : ℕ) × (0 < n) × (n ≤ greatest) × (more : List ℕ) × (decimal n ≡ bytes ++ more)

abbrev pub BeginsNumber : List ℕ → ℕ → ℕ → Type 0
BeginsNumber bytes below above = (z : ℤ) × IsWithin below above z × (more : List ℕ) × (signed_decimal z ≡ bytes ++ more)

-- the bytes are none, or begin with a digit
abbrev pub may_begin_text : List ℕ → Bool
may_begin_text [] = true
may_begin_text (b ∷ bytes) = is_ascii_digit b
