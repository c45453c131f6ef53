use Rattle.pawk_ere_automaton.proofs.Walks.{not_here, not_here_at_all}
use Rattle.pawk_ere_automaton.proofs.scan.byte_end.Goals as goal

pub returns-in-None-clause-none : goal.returns-in-None-clause-none
returns-in-None-clause-none c = λ k ge lt. not_here_at_all c.args.text.now c.args.place c.args.byte k c.requires c.in-None.ensures ge lt

pub returns-in-Some-clause-none : goal.returns-in-Some-clause-none
returns-in-Some-clause-none c = λ k ge lt. not_here c.args.text.now c.args.place c.args.byte k c.in-Some.ahead c.in-Some.ensures.0.before ge lt
