use Rattle.std.proofs.Common.{◌≡◌, ◌<◌, ℕ, false, get_or, MatchOption}
use Rattle.pawk_ere_syntax.specs.Pattern.{Holds}
use Rattle.pawk_ere_syntax.proofs.byte_set.ByteSet.only_member.Given as goal

abbrev pub invariant-loop-byte : goal.invariant-loop-byte
invariant-loop-byte l = MatchOption l.found
    ((k : ℕ) → k < l.byte → get_or l.self.members k false ≡ false)
    (λ c. Holds l.self.members c × ((k : ℕ) → k < l.byte → Holds l.self.members k → k ≡ c))
