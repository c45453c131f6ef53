-- Formatted text in the words of the standard: a format is cut into pieces in one way.
use Rattle.std.specs.Prelude.{◌≡◌, ℕ, true, false, List, [], ◌∷◌, ◌++◌, Option, Some, None}
use Rattle.pawk_value.specs.Numeral.{AreDigits, begins}
use Rattle.pawk_value.specs.Format.{Spelling, is_flag, is_proper, directive_of, bytes_of_spelling, is_percent, Piece, Plain, Percent, Place, Malformed, pieces_of}

abbrev pub AreFlags : List ℕ → Type 0
AreFlags [] = Unit {0}
AreFlags (b ∷ s) = (is_flag b ≡ true) × AreFlags s

abbrev pub ArePrecisionDigits : Option (List ℕ) → Type 0
ArePrecisionDigits None = Unit {0}
ArePrecisionDigits (Some ds) = AreDigits ds

-- the parts of a directive are what they are to be: a 0 before the width is a flag, so the width begins with none
pub record IsSpelling (d : Spelling) : Type 0 where
  pub flags : AreFlags d.flags
  pub width : AreDigits d.width
  pub first : begins is_flag d.width ≡ false
  pub precision : ArePrecisionDigits d.precision
  pub proper : is_proper d ≡ true

-- after a `%`: no directive, nor a second `%`
pub record BeginsNothing (t : List ℕ) : Type 0 where
  pub percent : begins is_percent t ≡ false
  pub directive : (d : Spelling) (r : List ℕ) → IsSpelling d → t ≡ bytes_of_spelling d ++ r → ⊥

-- the format is these pieces, one after another
abbrev pub IsCut : List ℕ → List Piece → Type 0
IsCut s [] = s ≡ []
IsCut s (Plain b ∷ ps) = (is_percent b ≡ false) × ((t : List ℕ) × (s ≡ b ∷ t) × IsCut t ps)
IsCut s (Percent ∷ ps) = (t : List ℕ) × (s ≡ 37 ∷ 37 ∷ t) × IsCut t ps
IsCut s (Place d ∷ ps) = (p : Spelling) × (IsSpelling p × (d ≡ directive_of p) × ((t : List ℕ) × (s ≡ 37 ∷ (bytes_of_spelling p ++ t)) × IsCut t ps))
IsCut s (Malformed ∷ ps) = (t : List ℕ) × (BeginsNothing t × (s ≡ 37 ∷ t) × (ps ≡ []))

-- a format has one cut
abbrev pub FormatLaw : List ℕ → Type 0
FormatLaw s = IsCut s (pieces_of s) × ((qs : List Piece) → IsCut s qs → qs ≡ pieces_of s)
