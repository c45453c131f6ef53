-- What an expression matches, as a relation on places of a text.
use Rattle.std.specs.Prelude.{◌≡◌, ◌↔◌, ℕ, ◌+◌, ◌<◌, ◌≤◌, ◌⊎◌, Bool, true, false, Option, Some, None, List, [], ◌∷◌, length, get_or}

-- an expression as it is written
pub data Pattern : Type 0 where
  Empty : Pattern
  Start : Pattern
  End : Pattern
  Bytes : (members : List Bool) → Pattern
  Group : (a : Pattern) → Pattern
  Repeat : (a : Pattern) → (least : ℕ) → (most : Option ℕ) → Pattern
  Sequence : (a b : Pattern) → Pattern
  Either : (a b : Pattern) → Pattern

-- the places go from i to j, each neighbouring pair in R
abbrev pub Leads : (ℕ → ℕ → Type 0) → ℕ → List ℕ → ℕ → Type 0
Leads R i [] j = i ≡ j
Leads R i (k ∷ ks) j = R i k × Leads R k ks j

-- the byte belongs to a set
abbrev pub Holds : List Bool → ℕ → Type 0
Holds members byte = get_or members byte false ≡ true

-- a repetition may make that many turns
abbrev pub Allows : ℕ → Option ℕ → ℕ → Type 0
Allows least None turns = least ≤ turns
Allows least (Some most) turns = (least ≤ turns) × (turns ≤ most)

-- the text from i to j is one that the expression matches
abbrev pub Matches : Pattern → List ℕ → ℕ → ℕ → Type 0
Matches Empty s i j = i ≡ j
Matches Start s i j = (i ≡ 0) × (j ≡ 0)
Matches End s i j = (i ≡ length s) × (j ≡ length s)
Matches (Bytes members) s i j = (i < length s) × (j ≡ i + 1) × Holds members (get_or s i 0)
Matches (Group a) s i j = Matches a s i j
Matches (Repeat a least most) s i j = (ks : List ℕ) × Allows least most (length ks) × Leads (Matches a s) i ks j
Matches (Sequence a b) s i j = (k : ℕ) × Matches a s i k × Matches b s k j
Matches (Either a b) s i j = Matches a s i j ⊎ Matches b s i j

-- no match starts at the place
abbrev pub StartsNone : (ℕ → ℕ → Type 0) → ℕ → Type 0
StartsNone R i = (j : ℕ) → R i j → ⊥

-- no match starts at the place or later
abbrev pub NoneFrom : (ℕ → ℕ → Type 0) → ℕ → Type 0
NoneFrom R start = (k : ℕ) → start ≤ k → StartsNone R k

-- a match starts at the place or later
abbrev pub HasMatch : (ℕ → ℕ → Type 0) → ℕ → Type 0
HasMatch R start = (i : ℕ) × (start ≤ i) × (j : ℕ) × R i j

-- a match starts at or after the place, and none before this one
pub record MayStart (R : ℕ → ℕ → Type 0) (start begin : ℕ) : Type 0 where
  pub after : start ≤ begin
  pub none_before : (k : ℕ) → start ≤ k → k < begin → StartsNone R k
  pub is_found : HasMatch R start

-- a match from the place, and none from there ends later
pub record IsLongest (R : ℕ → ℕ → Type 0) (i j : ℕ) : Type 0 where
  pub matches : R i j
  pub longest : (l : ℕ) → R i l → l ≤ j

-- the leftmost match at or after a place, and the longest there
pub record Leftmost (R : ℕ → ℕ → Type 0) (start i j : ℕ) : Type 0 where
  pub matches : R i j
  pub after : start ≤ i
  pub first : (k l : ℕ) → start ≤ k → k < i → R k l → ⊥
  pub longest : (l : ℕ) → R i l → l ≤ j

-- found is some pair where the leftmost and longest match is that pair, and none only where no match starts from there on
pub record IsFound (R : ℕ → ℕ → Type 0) (start : ℕ) (found : Option (ℕ × ℕ)) : Type 0 where
  pub some : (i j : ℕ) → (found ≡ Some (i, j)) ↔ Leftmost R start i j
  pub none : found ≡ None → NoneFrom R start

-- a bound asks for no more turns than it allows
abbrev pub IsFit : ℕ → Option ℕ → Type 0
IsFit least None = Unit {0}
IsFit least (Some most) = least ≤ most
