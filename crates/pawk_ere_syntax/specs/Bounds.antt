-- Bounds of repetitions: XBD 9.4.6, EREs Matching Multiple Characters.
use Rattle.std.specs.Prelude.{ℕ, ◌+◌, ◌-◌, ◌*◌, ◌==◌, ◌&&◌, min, Bool, Option, Some, None, List, [], ◌∷◌, nat_le, if◌then◌else◌}
use Rattle.std.specs.Char.{is_ascii_digit}
use Rattle.pawk_ere_syntax.specs.declared.token.EreToken.{EreToken}
use Rattle.pawk_ere_syntax.specs.declared.token.EreToken.TheVariants.{Times}
use Rattle.pawk_ere_syntax.specs.Limits.{greatest_bound}

abbrev pub is_digit : ℕ → Bool
is_digit c = is_ascii_digit c

-- the rest of a number, and what follows it. A number above the greatest bound counts as the next one above that bound
abbrev pub number_more : ℕ → List ℕ → ℕ × List ℕ
number_more v [] = (v, [])
number_more v (c ∷ rest) = if is_digit c then number_more (min (v * 10 + (c - 48)) (greatest_bound + 1)) rest else (v, c ∷ rest)

unfoldable pub number_at : List ℕ → Option (ℕ × List ℕ)
number_at [] = None
number_at (c ∷ rest) = if is_digit c then Some (number_more (c - 48) rest) else None

-- a repetition of at least `least` turns
abbrev pub from_least : ℕ → List ℕ → Option (EreToken × List ℕ)
from_least least rest = if nat_le least greatest_bound then Some (Times least None, rest) else None

-- a repetition of `least` to `most` turns
abbrev pub between : ℕ → ℕ → List ℕ → Option (EreToken × List ℕ)
between least most rest = if nat_le least most && nat_le most greatest_bound then Some (Times least (Some most), rest) else None

-- the greater bound, and the closing brace
abbrev pub most_of : ℕ → Option (ℕ × List ℕ) → Option (EreToken × List ℕ)
most_of least None = None
most_of least (Some (most, [])) = None
most_of least (Some (most, c ∷ rest)) = if c == 125 then between least most rest else None

abbrev pub after_comma : ℕ → List ℕ → Option (EreToken × List ℕ)
after_comma least [] = None
after_comma least (c ∷ rest) = if c == 125 then from_least least rest else most_of least (number_at (c ∷ rest))

abbrev pub bound_of : Option (ℕ × List ℕ) → Option (EreToken × List ℕ)
bound_of None = None
bound_of (Some (least, [])) = None
bound_of (Some (least, c ∷ rest)) =
    if c == 125 then between least least rest else if c == 44 then after_comma least rest else None

-- what is after an opening brace: m}, m,} or m,n}
unfoldable pub bound_at : List ℕ → Option (EreToken × List ℕ)
bound_at bytes = bound_of (number_at bytes)
