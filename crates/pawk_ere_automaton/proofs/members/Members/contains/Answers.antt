use Rattle.std.proofs.Common.{false, arith}
use Rattle.std.proofs.lemmas.List.FromFn.{get_or-map-range_with_len}
use Rattle.pawk_ere_automaton.specs.Members.{bit_at, members_of}
use Rattle.pawk_ere_automaton.proofs.members.Members.contains.Goals as goal

pub returns : goal.returns
unfolding members_of
returns c =
    rw (get_or-map-range_with_len (bit_at c.args.self.now.octets) 0 256 c.args.byte c.args.byte false (omega arith) (omega arith))
    (λ h. h, λ h. h)
