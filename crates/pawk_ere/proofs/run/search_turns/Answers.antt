use Rattle.pawk_ere_automaton.specs.Members.{members_of}
use Rattle.pawk_ere.proofs.Runs.{turns_none, turns_some}
use Rattle.pawk_ere.proofs.run.search_turns.Goals as goal

pub returns-in-None : goal.returns-in-None
returns-in-None c = λ e is.
    turns_none e (members_of c.args.set.now) c.args.text.now c.args.from c.in-None.ensures is

pub returns-in-Some : goal.returns-in-Some
returns-in-Some c = λ e is.
    let there = c.in-Some.ensures in
    turns_some e (members_of c.args.set.now) c.args.text.now c.args.from c.in-Some.start c.members_end.result
    there.0 there.1 there.2 there.3 c.members_end.ensures.after c.members_end.ensures.all c.members_end.ensures.other is
