use Rattle.std.proofs.Common.{refl}
use Rattle.pawk_ere_automaton.proofs.Bits.{octet_bits}
use Rattle.pawk_ere_automaton.proofs.members.octet.Goals as goal

pub returns : goal.returns
returns c =
    octet_bits c.args.set.now.members c.args.place _ _ _ _ _ _ _ _ _
    c.weight.ensures.small c.weight-2.ensures.small c.weight-3.ensures.small c.weight-4.ensures.small
    c.weight-5.ensures.small c.weight-6.ensures.small c.weight-7.ensures.small c.weight-8.ensures.small refl
    c.weight.ensures.bit c.weight-2.ensures.bit c.weight-3.ensures.bit c.weight-4.ensures.bit
    c.weight-5.ensures.bit c.weight-6.ensures.bit c.weight-7.ensures.bit c.weight-8.ensures.bit
