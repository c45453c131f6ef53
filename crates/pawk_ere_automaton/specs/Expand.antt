-- An expression with its repetitions written out.
use Rattle.std.specs.Prelude.{ℕ, zero, suc, ◌-◌, Option, Some, None, nat_le, if◌then◌else◌}
use Rattle.pawk_ere_syntax.specs.Pattern as pattern
use Rattle.pawk_ere_syntax.specs.Pattern.{Pattern}
use Rattle.pawk_ere_syntax.specs.Sets.{none}
use Rattle.pawk_ere_automaton.specs.Regex.{Regex, Empty, Start, End, Bytes, Sequence, Either, Star, Plus, copies}

-- at most that many copies
abbrev pub at_most : ℕ → Regex → Regex
at_most zero a = Empty
at_most (suc n) a = Either Empty (Sequence a (at_most n a))

-- that many copies or more
abbrev pub at_least : ℕ → Regex → Regex
at_least zero a = Star a
at_least (suc zero) a = Plus a
at_least (suc (suc n)) a = Sequence (copies (suc n) a) (Plus a)

-- a repetition; one that asks for more turns than it allows takes nothing
abbrev pub repeated : ℕ → Option ℕ → Regex → Regex
repeated least None a = at_least least a
repeated least (Some most) a = if nat_le least most then Sequence (copies least a) (at_most (most - least) a) else Bytes none

abbrev pub expand : Pattern → Regex
expand pattern.Empty = Empty
expand pattern.Start = Start
expand pattern.End = End
expand (pattern.Bytes members) = Bytes members
expand (pattern.Group a) = expand a
expand (pattern.Repeat a least most) = repeated least most (expand a)
expand (pattern.Sequence a b) = Sequence (expand a) (expand b)
expand (pattern.Either a b) = Either (expand a) (expand b)
