use Rattle.std.proofs.Common.{◌≡◌, ℕ, ◌<◌, ◌≤◌, Option, Some, None, MatchOption, IfSome, arith}
use Rattle.pawk_ere_syntax.specs.Pattern.{Holds}
use Rattle.pawk_ere_syntax.specs.Sets.{IsOnlyMember}
use Rattle.pawk_ere_automaton.specs.Members.{members_of}
use Rattle.pawk_ere_automaton.specs.declared.members.Members.{Members}
use Rattle.pawk_ere_automaton.proofs.Bits.{holds_below}
use Rattle.pawk_ere_automaton.proofs.members.Members.only_member.Goals as goal

-- what is found among 256 bytes is the only member
only_found : (set : Members) (o : Option ℕ) (n : ℕ) → 256 ≤ n → MatchOption o ((k : ℕ) → k < n → Holds (members_of set) k → ⊥) (λ c. Holds (members_of set) c × ((k : ℕ) → k < n → Holds (members_of set) k → k ≡ c))
    → IfSome o (λ byte. IsOnlyMember (members_of set) byte)
only_found set None n ge h = tt
only_found set (Some c) n ge h = (h.0, λ k holds. h.1 k (let lt = holds_below set k holds in omega (arith, lt)) holds)

pub returns : goal.returns
returns c = only_found c.args.self.now c.loop-byte.found c.loop-byte.byte c.loop-byte-test.false c.loop-byte.invariant
