-- Pairs of a map of the code, as values by keys.
use Rattle.std.specs.Prelude.{◌≡◌, ℕ, List, [], ◌∷◌, Some, None, slice_get}
use Rattle.pawk_keyed_map.specs.declared.key.Key.{Key}
use Rattle.pawk_keyed_map.specs.Keys.{text_of}
use Rattle.pawk_keyed_map.specs.Keyed.{Keyed, found, put}

-- what the pairs hold, where this is seen of a value
abbrev pub seen_by : {A B : Type 0} → (A → B) → List (Key × A) → Keyed B
seen_by view [] = []
seen_by view (e ∷ es) = put (text_of e.0) (view e.1) (seen_by view es)

-- the values by keys that the pairs are
abbrev pub by_key : {A : Type 0} → List (Key × A) → Keyed A
by_key es = seen_by (λ v. v) es

-- each key occurs once among the pairs
abbrev pub OccurOnce : {A B : Type 0} → (A → B) → List (Key × A) → Type 0
OccurOnce view [] = Unit {0}
OccurOnce view (e ∷ es) = (found (text_of e.0) (seen_by view es) ≡ None) × OccurOnce view es

-- at this place is the pair of the key
abbrev pub HasKeyAt : {A : Type 0} → List (Key × A) → ℕ → List ℕ → Type 0
HasKeyAt {A} es place k = (e : Key × A) × (slice_get es place ≡ Some e) × (text_of e.0 ≡ k)
