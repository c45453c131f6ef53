-- The fields of a record between the matches of an expression, as ranges of it, each a begin and an end counted from 0.
-- POSIX.1-2017, awk, "Variables and Special Variables" (FS, RS) and "Regular Expressions".
use Rattle.std.specs.Prelude.{◌≡◌, ◌⊎◌, ℕ, ◌+◌, ◌<◌, Bool, true, List, [], ◌∷◌, length, slice_index}
use Rattle.pawk_ere_syntax.specs.Pattern.{Pattern, Matches, Leftmost, NoneFrom}
use Rattle.pawk_ere_syntax.specs.Tokens.{SpellsEre}

-- a match from i to j that is not empty
abbrev pub MatchesSome : Pattern → List ℕ → ℕ → ℕ → Type 0
MatchesSome e s i j = (i < j) × Matches e s i j

-- at i is a newline that separates fields, as it does in paragraph mode
abbrev pub IsNewline : Bool → List ℕ → ℕ → Type 0
IsNewline paragraph s i = (paragraph ≡ true) × (i < length s) × (slice_index s i ≡ 10)

-- what lies from i to j may separate: a match that is not empty, or a newline
abbrev pub MaySeparate : Pattern → Bool → List ℕ → ℕ → ℕ → Type 0
MaySeparate e paragraph s i j = MatchesSome e s i j ⊎ (IsNewline paragraph s i × (j ≡ i + 1))

-- The ranges are the fields of s from a place on, where what separates is in R. A field goes up to the next
-- separator, which is the leftmost one from there on and of those the longest, and after it the next field
-- begins; the last one goes up to the end.
abbrev pub AreFields : (ℕ → ℕ → Type 0) → List ℕ → ℕ → List (ℕ × ℕ) → Type 0
AreFields R s from [] = ⊥
AreFields R s from (f ∷ fs) =
    (f.0 ≡ from)
    × ((NoneFrom R from × (f.1 ≡ length s) × (fs ≡ []))
    ⊎ ((next : ℕ) × Leftmost R from f.1 next × AreFields R s next fs))

-- the fields of s from a place on, between the matches of the expression that a text spells
pub record AreBetween (pattern : List ℕ) (paragraph : Bool) (s : List ℕ) (from : ℕ) (fields : List (ℕ × ℕ)) : Type 0 where
  pub expression : Pattern
  pub spelled : SpellsEre pattern expression
  pub in_order : AreFields (MaySeparate expression paragraph s) s from fields

-- the fields of a record between the matches of the expression that a text spells; an empty record has none
abbrev pub AreFieldsBetween : List ℕ → Bool → List ℕ → List (ℕ × ℕ) → Type 0
AreFieldsBetween pattern paragraph [] fields = fields ≡ []
AreFieldsBetween pattern paragraph (b ∷ s) fields = AreBetween pattern paragraph (b ∷ s) 0 fields
