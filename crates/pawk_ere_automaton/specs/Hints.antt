-- What an expression shows of where its matches begin.
use Rattle.std.specs.Prelude.{◌≡◌, ℕ, ◌<◌, List, length, get_or}
use Rattle.pawk_ere_automaton.specs.Regex.{Regex, Takes}

-- it matches at the begin of the text only
abbrev pub IsAnchored : Regex → Type 0
IsAnchored e = (s : List ℕ) (i j : ℕ) → Takes e s i j → i ≡ 0

-- each match begins with the byte
abbrev pub BeginsWith : Regex → ℕ → Type 0
BeginsWith e byte = (s : List ℕ) (i j : ℕ) → Takes e s i j → (i < length s) × (get_or s i 0 ≡ byte)
