-- What a matcher answers.
use Rattle.std.specs.Prelude.{◌↔◌, ℕ, List, Option}
use Rattle.pawk_ere_automaton.specs.declared.misses.Misses.{Misses}
use Rattle.pawk_ere_syntax.specs.Pattern.{Pattern, Matches, IsFound}
use Rattle.pawk_ere_automaton.specs.Misses.{AreMissesOf}
use Rattle.pawk_ere_automaton.specs.Regex.{Regex, Takes}

-- the matcher is one of this expression: what it takes is what the expression matches
pub record IsFor (e : Pattern) (r : Regex) : Type 0 where
  pub same : (s : List ℕ) (i j : ℕ) → Takes r s i j ↔ Matches e s i j

-- what was found is the leftmost and longest match of the expression from a place of the text on, or that there is none
abbrev pub IsAnswer : Pattern → List ℕ → ℕ → Option (ℕ × ℕ) → Type 0
IsAnswer e text start found = IsFound (Matches e text) start found

-- what is held of walks over the text is true of the expression of the matcher
abbrev pub AreMissesFor : Regex → List ℕ → Misses → Type 0
AreMissesFor r text misses = AreMissesOf r text misses
