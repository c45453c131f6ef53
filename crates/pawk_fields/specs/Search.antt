-- Where the matches of an expression are, as functions: the expression is run over the text from each place.
-- XBD 9.1, Regular Expression Definitions: the leftmost match, and of those the longest.
use Rattle.std.specs.Prelude.{ℕ, ◌+◌, ◌==◌, Bool, true, false, Option, Some, None, List, [], ◌∷◌, drop, if◌then◌else◌}
use Rattle.pawk_ere_syntax.specs.Pattern.{Pattern}
use Rattle.pawk_ere_automaton.specs.Expand.{expand}
use Rattle.pawk_ere_automaton.specs.Marks.{shift}
use Rattle.pawk_ere_automaton.specs.Regex.{Regex}
use Rattle.pawk_ere_automaton.specs.Table.{ends_with}

-- an end that comes later, or else this place, if it is one
abbrev pub later_or_here : Option ℕ → Bool → ℕ → Option ℕ
later_or_here (Some end) ends place = Some end
later_or_here None ends place = if ends then Some place else None

-- The last place where a match ends that has come to these marks, where `enter` says whether it may begin here. The
-- text goes on so from the place on.
unfoldable pub last_end : Regex → Bool → List Bool → ℕ → List ℕ → Option ℕ
last_end e enter marks place [] = later_or_here None (ends_with e enter marks (place == 0) true) place
last_end e enter marks place (b ∷ rest) =
    later_or_here (last_end e false (shift e enter marks b (place == 0)) (place + 1) rest) (ends_with e enter marks (place == 0) false) place

-- the end of the longest match that starts at a place
abbrev pub longest_end : Regex → ℕ → List ℕ → Option ℕ
longest_end e place rest = last_end e true [] place rest

-- a match from the place, if it ends somewhere, or else another
abbrev pub match_or : ℕ → Option ℕ → Option (ℕ × ℕ) → Option (ℕ × ℕ)
match_or place (Some end) other = Some (place, end)
match_or place None other = other

-- the longest match from the first place at which one starts
unfoldable pub first_match : Regex → ℕ → List ℕ → Option (ℕ × ℕ)
first_match e place [] = match_or place (longest_end e place []) None
first_match e place (b ∷ rest) = match_or place (longest_end e place (b ∷ rest)) (first_match e (place + 1) rest)

-- the leftmost match that starts at a place of the text or later, and of those the longest
unfoldable pub find : Pattern → List ℕ → ℕ → Option (ℕ × ℕ)
find e text from = first_match (expand e) from (drop from text)
