-- What `index`, `substr`, `sub` and `gsub` do, in the words of the standard (awk, "String Functions").
use Rattle.std.specs.Prelude.{◌≡◌, ◌≢◌, ◌⊎◌, ℕ, pos, int_le, ◌+◌, ◌<◌, ◌≤◌, Bool, true, false, if◌then◌else◌, nat_lt, Option, Some, None, List, [], ◌∷◌, ◌++◌, length, drop, slice_range, option_to_list}
use Rattle.memchr.specs.Find.{OccursAt}
use Rattle.pawk_code.specs.declared.word.ReplacedMatches.TheVariants as count
use Rattle.pawk_ere_syntax.specs.Pattern.{Pattern}
use Rattle.pawk_fields.specs.Search.{find}
use Rattle.pawk_store.specs.Builtins.{index, bytes_where, is_from, Replaced, replacement, replaced}

-- ---- index

-- the first place at which t stands in s, counted from 1, or 0 where it stands nowhere; 0 for an empty t
pub record IndexLaw (s t : List ℕ) : Type 0 where
  pub first : (k : ℕ) → 0 < length t → OccursAt s t k → ((j : ℕ) → j < k → OccursAt s t j → ⊥) → index s t ≡ k + 1
  pub nowhere : 0 < length t → ((k : ℕ) → OccursAt s t k → ⊥) → index s t ≡ 0
  pub empty : index s [] ≡ 0

-- ---- substr

-- places are counted from 1: from the place after `front`, as many bytes as `middle` has are `middle`; with no number all that
-- are left, and so with a number that is no less than these
pub record SubstringLaw (front middle back : List ℕ) : Type 0 where
  pub part : bytes_where (is_from (pos (length front + 1)) (pos (length middle))) 1 (front ++ (middle ++ back)) ≡ middle
  pub rest : bytes_where (λ p. int_le (pos (length front + 1)) (pos p)) 1 (front ++ back) ≡ back
  pub limited : (n : ℕ) → length back ≤ n → bytes_where (is_from (pos (length front + 1)) (pos n)) 1 (front ++ back) ≡ back

-- ---- what stands for a match

-- no backslash at the end of a stands before an ampersand or a backslash at the begin of b
abbrev pub AreApart : List ℕ → List ℕ → Type 0
AreApart a b =
    ((front : List ℕ) → a ≡ front ++ 92 ∷ [] → ⊥)
    ⊎ ((c : ℕ) (rest : List ℕ) → b ≡ c ∷ rest → (c ≢ 38) × (c ≢ 92))

-- `&` is the match, `\&` an ampersand, `\\` a backslash and any other byte itself; and the parts follow one another
pub record ReplacementLaw (match : List ℕ) : Type 0 where
  pub ampersand : replacement match (38 ∷ []) ≡ match
  pub escaped : replacement match (92 ∷ 38 ∷ []) ≡ 38 ∷ []
  pub backslash : replacement match (92 ∷ 92 ∷ []) ≡ 92 ∷ []
  pub other : (b : ℕ) → b ≢ 38 → replacement match (b ∷ []) ≡ b ∷ []
  pub nothing : replacement match [] ≡ []
  pub joined : (a b : List ℕ) → AreApart a b → replacement match (a ++ b) ≡ replacement match a ++ replacement match b

-- ---- which matches are replaced

-- the next match from a place on is the one that is found, but for an empty one where one that was not empty ended: then
-- it is the one that is found from the next byte on
abbrev pub IsNext : Pattern → List ℕ → ℕ → Bool → Option (ℕ × ℕ) → Type 0
IsNext e s from behind o =
    ((find e s from ≡ o) × (behind ≡ true → o ≡ Some (from, from) → ⊥))
    ⊎ ((behind ≡ true) × (find e s from ≡ Some (from, from)) × (o ≡ (if nat_lt from (length s) then find e s (from + 1) else None)))

-- all matches from a place on, from left to right: after one that is not empty from its end on, after an empty one from
-- the next byte on; `behind` says whether one that was not empty ended at the place
abbrev pub AreAll : Pattern → List ℕ → ℕ → Bool → List (ℕ × ℕ) → Type 0
AreAll e s from behind [] = IsNext e s from behind None
AreAll e s from behind (m ∷ ms) =
    IsNext e s from behind (Some m)
    × (m.0 < m.1 → AreAll e s m.1 true ms)
    × (m.0 ≡ m.1 → m.1 < length s → AreAll e s (m.1 + 1) false ms)
    × (m.0 ≡ m.1 → m.1 ≡ length s → ms ≡ [])

-- a text from a place on: what is between these matches, with each replaced
abbrev pub parts : List ℕ → List ℕ → ℕ → List (ℕ × ℕ) → List ℕ
parts r s place [] = drop place s
parts r s place (m ∷ ms) = slice_range s place m.0 ++ (replacement (slice_range s m.0 m.1) r ++ parts r s m.1 ms)

-- these matches of s are replaced, and they are counted
pub record IsWith (r s : List ℕ) (ms : List (ℕ × ℕ)) (result : Replaced) : Type 0 where
  pub text : result.text ≡ parts r s 0 ms
  pub number : result.count ≡ length ms

-- `gsub` replaces all matches, and `sub` the first that is found
pub record ReplacedLaw (e : Pattern) (r s : List ℕ) : Type 0 where
  pub all : (ms : List (ℕ × ℕ)) × AreAll e s 0 false ms × IsWith r s ms (replaced count.All e r s)
  pub first : IsWith r s (option_to_list (find e s 0)) (replaced count.First e r s)
