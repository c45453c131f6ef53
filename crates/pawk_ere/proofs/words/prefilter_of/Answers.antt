use Rattle.pawk_ere_automaton.specs.Members.{members_of}
use Rattle.std.proofs.Common.{sym, subst, arith}
use Rattle.pawk_ere.specs.Runs.{IsRun}
use Rattle.pawk_ere_automaton.specs.Tree.{regex_of}
use Rattle.pawk_ere_automaton.specs.declared.members.Members.{Members}
use Rattle.pawk_ere.proofs.words.prefilter_of.Goals as goal

pub returns-then-count-gt0 : goal.returns-then-count-gt0
returns-then-count-gt0 c = (
  subst (λ (set : Members). IsRun (regex_of c.args.node.now) (members_of set) c.in-Some.count) (sym c.in_ok-new.ensures.ok) c.in-Some.ensures,
  omega arith,
)
