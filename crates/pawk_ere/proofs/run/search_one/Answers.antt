use Rattle.pawk_ere_automaton.specs.Members.{members_of}
use Rattle.pawk_ere.proofs.Runs.{one_none, one_some}
use Rattle.pawk_ere.proofs.run.search_one.Goals as goal

pub returns-in-None : goal.returns-in-None
returns-in-None c = λ e is.
    one_none e (members_of c.args.set.now) c.args.text.now c.args.from c.requires c.in-None.ensures is

pub returns-in-Some : goal.returns-in-Some
returns-in-Some c = λ e is.
    let there = c.in-Some.ensures in
    one_some e (members_of c.args.set.now) c.args.text.now c.args.from c.in-Some.place there.0 there.1 there.2 there.3 is
