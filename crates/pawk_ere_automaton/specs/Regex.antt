-- Expressions as the matcher runs them: a repetition makes one turn or more, or any number of them.
use Rattle.std.specs.Prelude.{◌≡◌, ℕ, zero, suc, ◌+◌, ◌<◌, ◌≤◌, ◌⊎◌, Bool, List, length, get_or}
use Rattle.pawk_ere_syntax.specs.Pattern.{Leads, Holds}

-- an expression, without where its parts lie in memory
pub data Regex : Type 0 where
  Empty : Regex
  Start : Regex
  End : Regex
  Bytes : (members : List Bool) → Regex
  Sequence : (a b : Regex) → Regex
  Either : (a b : Regex) → Regex
  Star : (a : Regex) → Regex
  Plus : (a : Regex) → Regex

-- that many copies, one after the other
abbrev pub copies : ℕ → Regex → Regex
copies zero a = Empty
copies (suc n) a = Sequence a (copies n a)

-- the text from i to j is one that the expression matches
abbrev pub Takes : Regex → List ℕ → ℕ → ℕ → Type 0
Takes Empty s i j = i ≡ j
Takes Start s i j = (i ≡ 0) × (j ≡ 0)
Takes End s i j = (i ≡ length s) × (j ≡ length s)
Takes (Bytes members) s i j = (i < length s) × (j ≡ i + 1) × Holds members (get_or s i 0)
Takes (Sequence a b) s i j = (k : ℕ) × Takes a s i k × Takes b s k j
Takes (Either a b) s i j = Takes a s i j ⊎ Takes b s i j
Takes (Star a) s i j = (ks : List ℕ) × Leads (Takes a s) i ks j
Takes (Plus a) s i j = (ks : List ℕ) × (1 ≤ length ks) × Leads (Takes a s) i ks j
