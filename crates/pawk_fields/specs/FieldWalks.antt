-- How a walk goes over the fields of a record between the matches of an expression.
use Rattle.std.specs.Prelude.{◌≡◌, ◌↔◌, ℕ, ◌+◌, ◌-◌, ◌++◌, Bool, List, [], ◌∷◌, Option, None, Some, MatchOption, IsSome, length, map}
use Rattle.std.specs.declared.ops.Range.{Range}
use Rattle.pawk_ere_syntax.specs.Pattern.{Pattern, Leftmost, NoneFrom}
use Rattle.pawk_ere_syntax.specs.Tokens.{SpellsEre}
use Rattle.pawk_fields.specs.FieldSeparator.{range_of}
use Rattle.pawk_fields.specs.Between.{AreBetween, MatchesSome}

-- the leftmost match from a place on that is not empty, and of those the longest; or there is none
pub record IsNextMatch (pattern s : List ℕ) (from : ℕ) (found : Option (ℕ × ℕ)) : Type 0 where
  pub expression : Pattern
  pub spelled : SpellsEre pattern expression
  pub is_next : MatchOption found (NoneFrom (MatchesSome expression s) from) (λ m. Leftmost (MatchesSome expression s) from m.0 m.1)

-- these are the fields from a place on; from no place on there are none
abbrev pub AreFrom : List ℕ → Bool → List ℕ → Option ℕ → List (ℕ × ℕ) → Type 0
AreFrom pattern paragraph s None fields = fields ≡ []
AreFrom pattern paragraph s (Some from) fields = AreBetween pattern paragraph s from fields

-- the state of a walk over the fields: the text of the expression, the record, and the place from which on the next
-- field is looked for
pub record Rest : Type 0 where
  pub pattern : List ℕ
  pub paragraph : Bool
  pub text : List ℕ
  pub next : Option ℕ

-- these are the fields that are left of a walk
abbrev pub AreLeft : Rest → List (ℕ × ℕ) → Type 0
AreLeft r fields = AreFrom r.pattern r.paragraph r.text r.next fields

-- a walk is not over: the next match is needed
abbrev pub NeedsFinder : Rest → Type 0
NeedsFinder r = IsSome r.next

-- no field is left of a walk
abbrev pub IsOver : Rest → Type 0
IsOver r = (fields : List (ℕ × ℕ)) → AreLeft r fields ↔ (fields ≡ [])

-- the places of a range
abbrev pub place_of : Range ℕ → ℕ × ℕ
place_of r = (r.start, r.end)

-- of the fields that were left of a walk this one is the first, and the others are left
pub record HandsOut (old new : Rest) (f : ℕ × ℕ) : Type 0 where
  pub onto : (rest : List (ℕ × ℕ)) → AreLeft new rest → AreLeft old (f ∷ rest)
  pub only : (fields : List (ℕ × ℕ)) → AreLeft old fields → (rest : List (ℕ × ℕ)) × (fields ≡ f ∷ rest) × AreLeft new rest

-- how many fields are left at most
abbrev pub most_left : Option ℕ → List ℕ → ℕ
most_left None s = 0
most_left (Some from) s = length s + 1 - from

-- the ranges that were added are those of the fields that are left of a walk
pub record AddsLeft (rest : Rest) (old new : List (Range ℕ)) : Type 0 where
  pub fields : List (ℕ × ℕ)
  pub left : AreLeft rest fields
  pub added : new ≡ old ++ map range_of fields
