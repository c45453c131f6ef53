use Rattle.std.proofs.Common.{IfSome, subst, arith}
use Rattle.pawk_ere_automaton.specs.Members.{members_of}
use Rattle.pawk_ere_automaton.proofs.Walks.{not_here, not_here_at_all}
use Rattle.pawk_ere_syntax.specs.Sets.{IsOnlyMember}
use Rattle.pawk_ere.proofs.Runs.{only_here}
use Rattle.pawk_ere.proofs.run.first_place.Goals as goal

pub returns-in-None : goal.returns-in-None
returns-in-None c = λ k ge lt holds.
    let only = subst (λ o. IfSome o (λ byte. IsOnlyMember (members_of c.args.set.now) byte)) c.in-Some.is c.requires.only in
    not_here_at_all c.args.text.now c.args.from c.in-Some.byte k c.requires.within c.in-None.ensures ge lt (only.1 _ holds)

pub returns-in-Some-memchr : goal.returns-in-Some-memchr
returns-in-Some-memchr c =
    let members = members_of c.args.set.now in
    let only = subst (λ o. IfSome o (λ byte. IsOnlyMember members byte)) c.in-Some.is c.requires.only in
    let first = c.in-Some-memchr.ensures in
    let here = only_here members c.args.text.now c.args.from c.in-Some.byte c.in-Some-memchr.ahead c.requires.within only first.0.high first.1 in
    (omega arith, here.0, here.1, λ k ge lt holds. not_here c.args.text.now c.args.from c.in-Some.byte k c.in-Some-memchr.ahead first.0.before ge lt (only.1 _ holds))
