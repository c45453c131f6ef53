-- Expressions that are n bytes of one set, or one or more of them, and nothing else.
use Rattle.std.specs.Prelude.{◌≡◌, ◌↔◌, ℕ, ◌+◌, ◌<◌, ◌≤◌, Bool, List, length, get_or}
use Rattle.pawk_ere_automaton.specs.Regex.{Regex, Takes}
use Rattle.pawk_ere_syntax.specs.Pattern.{Holds}

-- each byte from one place up to another is one of the text, and belongs to the set
abbrev pub AllHold : List Bool → List ℕ → ℕ → ℕ → Type 0
AllHold members s i j = (k : ℕ) → i ≤ k → k < j → (k < length s) × Holds members (get_or s k 0)

-- no byte from one place up to another belongs to the set
abbrev pub NoneHolds : List Bool → List ℕ → ℕ → ℕ → Type 0
NoneHolds members s i j = (k : ℕ) → i ≤ k → k < j → Holds members (get_or s k 0) → ⊥

-- it matches n bytes of the set and nothing else
abbrev pub IsRun : Regex → List Bool → ℕ → Type 0
IsRun e members count = (s : List ℕ) (i j : ℕ) → Takes e s i j ↔ (AllHold members s i j × (j ≡ i + count))

-- it matches one byte of the set or more and nothing else
abbrev pub IsTurns : Regex → List Bool → Type 0
IsTurns e members = (s : List ℕ) (i j : ℕ) → Takes e s i j ↔ (AllHold members s i j × (i < j))
