use Rattle.std.proofs.Common.{arith}
use Rattle.pawk_ere_automaton.specs.Tree.{regex_of}
use Rattle.pawk_ere_automaton.proofs.Links.{link_leads}
use Rattle.pawk_ere_automaton.proofs.table.state_after.Goals as goal

pub returns-then-next-ne0-clause-leads : goal.returns-then-next-ne0-clause-leads
returns-then-next-ne0-clause-leads c =
    link_leads (regex_of c.args.node.now) c.args.table.now c.args.place c.args.byte _ c.requires.table c.requires.within (omega arith) c.index-next.ensures c.if-next-ne0.true
