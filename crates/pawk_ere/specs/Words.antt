-- Words that a text must hold to have a match.
use Rattle.pawk_ere_automaton.specs.Members.{members_of}
use Rattle.std.specs.Prelude.{◌≡◌, ◌↔◌, ℕ, ◌+◌, ◌≤◌, true, All, List, length, IfSome}
use Rattle.memchr.specs.Find.{OccursAt}
use Rattle.pawk_ere_automaton.specs.Regex.{Regex, Takes}
use Rattle.pawk_ere.specs.declared.words.Features.{Features}
use Rattle.pawk_ere.specs.declared.words.Prefilter.{Prefilter}
use Rattle.pawk_ere.specs.declared.words.Prefilter.TheVariants.{Literal, Run, Turns, Words}
use Rattle.pawk_ere.specs.Runs.{IsRun, IsTurns}
use Rattle.pawk_ere_syntax.specs.Sets.{IsOnlyMember}
use Rattle.pawk_ere_syntax.specs.Pattern.{Pattern, Matches, NoneFrom}

-- it matches these bytes and nothing else
abbrev pub IsLiteral : Regex → List ℕ → Type 0
IsLiteral e bytes = (s : List ℕ) (i j : ℕ) → Takes e s i j ↔ (OccursAt s bytes i × (j ≡ i + length bytes))

-- each match in a text ends with these bytes
abbrev pub EndsIn : Regex → List ℕ → Type 0
EndsIn e tail = (s : List ℕ) (i j : ℕ) → Takes e s i j → j ≤ length s → (k : ℕ) × OccursAt s tail k × (j ≡ k + length tail)

-- none of the words occurs anywhere in the text
abbrev pub HoldsNone : List ℕ → List (List ℕ) → Type 0
HoldsNone s words = All (λ word. (k : ℕ) → OccursAt s word k → ⊥) words

-- there is no match in a text that holds none of the words
abbrev pub NeedsOne : Regex → List (List ℕ) → Type 0
NeedsOne e words = (s : List ℕ) (i j : ℕ) → HoldsNone s words → Takes e s i j → j ≤ length s → ⊥

-- a match needs one of the words, if there are any
abbrev pub AreNeeded : Regex → List (List ℕ) → Type 0
AreNeeded e words = 1 ≤ length words → NeedsOne e words

-- what is seen of the matches is right
pub record AreFeatures (e : Regex) (features : Features) : Type 0 where
  pub tail : EndsIn e features.tail.items
  pub whole : features.whole ≡ true → IsLiteral e features.tail.items
  pub words : AreNeeded e features.words.items

-- what is looked for before a walk says of the matches
abbrev pub IsPrefilter : Regex → Prefilter → Type 0
IsPrefilter e (Literal bytes) = IsLiteral e bytes
IsPrefilter e (Run set count) = IsRun e (members_of set.value) count × (1 ≤ count)
IsPrefilter e (Turns set only) = IsTurns e (members_of set.value) × IfSome only (λ byte. IsOnlyMember (members_of set.value) byte)
IsPrefilter e (Words words) = AreNeeded e words.items

-- each text in which the expression matches holds one of the words, if there are any
abbrev pub NeedsWords : Pattern → List (List ℕ) → Type 0
NeedsWords e words = 1 ≤ length words → (s : List ℕ) → HoldsNone s words → NoneFrom (Matches e s) 0
