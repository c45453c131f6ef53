-- How all matches of an expression in a text are replaced by searches.
use Rattle.std.specs.Prelude.{◌≡◌, ℕ, ◌+◌, ◌*◌, ◌-◌, ◌<◌, ◌≤◌, ◌==◌, Bool, true, false, not, ◌||◌, ◌&&◌, nat_lt, if◌then◌else◌, Option, Some, None, List, [], ◌∷◌, ◌++◌, length, drop, slice_range}
use Rattle.pawk_ere_syntax.specs.Pattern.{Pattern}
use Rattle.pawk_ere_automaton.specs.Expand.{expand}
use Rattle.pawk_store.specs.Builtins.{Replaced, replacement, replace_from}

-- the text from a place on with its matches replaced, and how many they are; `behind`: a match that is not empty ended there
abbrev pub replaced_after : Pattern → List ℕ → List ℕ → ℕ → Bool → Replaced
replaced_after e r s from behind = replace_from (expand e) r from 0 behind (drop from s)

-- where matches are looked for after a match: after its end, and after the byte that follows an empty one
abbrev pub from_after : List ℕ → ℕ × ℕ → ℕ
from_after s m = if nat_lt m.0 m.1 then m.1 else if nat_lt m.1 (length s) then m.1 + 1 else m.1

-- whether an empty match that starts there is none: a match that is not empty ended there, or the text did
abbrev pub is_past : List ℕ → ℕ × ℕ → Bool
is_past s m = nat_lt m.0 m.1 || not (nat_lt m.1 (length s))

-- a text with a match replaced, and what is before and after it
abbrev pub match_replaced : List ℕ → List ℕ → ℕ → ℕ × ℕ → Replaced → Replaced
match_replaced r s from m rest =
    record {
      text = slice_range s from m.0 ++ (replacement (slice_range s m.0 m.1) r ++ (slice_range s m.1 (from_after s m) ++ rest.text));
      count = rest.count + 1;
    }

-- the text from a place on with the match replaced that was found, if there is one
abbrev pub found_replaced : Pattern → List ℕ → List ℕ → ℕ → Option (ℕ × ℕ) → Replaced
found_replaced e r s from None = record { text = drop from s; count = 0 }
found_replaced e r s from (Some m) = match_replaced r s from m (replaced_after e r s (from_after s m) (is_past s m))

-- what is found is the next match that is replaced, whatever it is replaced by
abbrev pub IsNextReplaced : Pattern → List ℕ → ℕ → Bool → Option (ℕ × ℕ) → Type 0
IsNextReplaced e s from behind o = (r : List ℕ) → replaced_after e r s from behind ≡ found_replaced e r s from o

-- a match lies from a place on, and is not the empty one there where a match that is not empty ended there
pub record IsAhead (s : List ℕ) (from : ℕ) (behind : Bool) (m : ℕ × ℕ) : Type 0 where
  pub after : from ≤ m.0
  pub ordered : m.0 ≤ m.1
  pub high : m.1 ≤ length s
  pub new : behind ≡ true → from < m.1

-- of the whole text this is written, and from a place on it goes on so
pub record IsLaidOut (whole : Replaced) (s out : List ℕ) (place from count : ℕ) (rest : Replaced) : Type 0 where
  pub text : whole.text ≡ out ++ (slice_range s place from ++ rest.text)
  pub number : whole.count ≡ count + rest.count

-- a byte that a backslash before it makes one of the text: an ampersand or a backslash
abbrev pub begins_escaped : List ℕ → Bool
begins_escaped [] = false
begins_escaped (b ∷ s) = (b == 38) || (b == 92)

-- how much is left to be searched
abbrev pub left_after : List ℕ → ℕ → Bool → ℕ
left_after s from behind = 2 * (length s - from) + (if behind then 0 else 1)

-- what is found is an empty match at a place where a match that is not empty ended
abbrev pub is_used : Option (ℕ × ℕ) → ℕ → Bool → Bool
is_used None from behind = false
is_used (Some m) from behind = behind && (m.1 == from)
