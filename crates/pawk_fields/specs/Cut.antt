-- What is known after a field.
use Rattle.std.specs.Prelude.{◌≡◌, ℕ, ◌<◌, ◌≤◌, Bool, List, ◌∷◌, Option, None, Some, length, IfSome}
use Rattle.pawk_fields.specs.Between.{AreBetween}
use Rattle.pawk_fields.specs.FieldWalks.{AreFrom, IsNextMatch}
use Rattle.pawk_fields.specs.declared.cut.Ahead.{Ahead}
use Rattle.pawk_fields.specs.declared.cut.Ahead.TheVariants.{Unknown, Known}
use Rattle.pawk_fields.specs.declared.cut.Cut.{Cut}

-- what is known of the match that is next from a place on
abbrev pub IsAhead : List ℕ → List ℕ → Option ℕ → Ahead → Type 0
IsAhead pattern s next Unknown = Unit {0}
IsAhead pattern s None (Known found) = Unit {0}
IsAhead pattern s (Some from) (Known found) = IsNextMatch pattern s from found

-- where a match is
abbrev pub IsWithin : List ℕ → ℕ → Option (ℕ × ℕ) → Type 0
IsWithin s from found = IfSome found (λ m. (from ≤ m.0) × (m.0 < m.1) × (m.1 ≤ length s))

-- the field from a place on ends there, and so much is known of what follows it
pub record IsCut (pattern : List ℕ) (paragraph : Bool) (s : List ℕ) (from : ℕ) (cut : Cut) : Type 0 where
  pub field : (fields : List (ℕ × ℕ)) → AreFrom pattern paragraph s cut.next fields → AreBetween pattern paragraph s from ((from, cut.end) ∷ fields)
  pub only : (fields : List (ℕ × ℕ)) → AreBetween pattern paragraph s from fields → (rest : List (ℕ × ℕ)) × (fields ≡ (from, cut.end) ∷ rest) × AreFrom pattern paragraph s cut.next rest
  pub known : IsAhead pattern s cut.next cut.ahead
