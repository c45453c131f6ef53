use Rattle.pawk_ere_automaton.specs.Members.{members_of}
use Rattle.std.proofs.Common.{arith, subst}
use Rattle.pawk_ere.specs.Runs.{IsRun}
use Rattle.pawk_ere.proofs.Runs.{run_none, run_some}
use Rattle.pawk_ere.proofs.run.search_run.Goals as goal

pub returns-then-count-eq1 : goal.returns-then-count-eq1
returns-then-count-eq1 c = λ e is.
    c.search_one.ensures e (subst (IsRun e (members_of c.args.set.now)) c.if-count-eq1.true is)

pub returns-in-None : goal.returns-in-None
returns-in-None c = λ e is.
    run_some e (members_of c.args.set.now) c.args.text.now c.args.count c.args.from c.loop-start.start c.loop-start.invariant.after c.loop-start.invariant.none c.in-None.ensures is

pub returns : goal.returns
returns c = λ e is.
    run_none e (members_of c.args.set.now) c.args.text.now c.args.count c.args.from c.loop-start.start c.requires.some c.loop-start.invariant.within' (omega arith) c.loop-start.invariant.none is
