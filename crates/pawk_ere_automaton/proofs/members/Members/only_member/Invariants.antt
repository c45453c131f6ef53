use Rattle.std.proofs.Common.{◌≡◌, ◌<◌, ℕ, MatchOption}
use Rattle.pawk_ere_automaton.specs.Members.{members_of}
use Rattle.pawk_ere_syntax.specs.Pattern.{Holds}
use Rattle.pawk_ere_automaton.proofs.members.Members.only_member.Given as goal

abbrev pub invariant-loop-byte : goal.invariant-loop-byte
invariant-loop-byte l = MatchOption l.found
    ((k : ℕ) → k < l.byte → Holds (members_of l.self) k → ⊥)
    (λ c. Holds (members_of l.self) c × ((k : ℕ) → k < l.byte → Holds (members_of l.self) k → k ≡ c))
