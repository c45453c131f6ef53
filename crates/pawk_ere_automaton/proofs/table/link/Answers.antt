use Rattle.std.proofs.Common.{arith}
use Rattle.pawk_ere_automaton.specs.Tree.{regex_of}
use Rattle.pawk_ere_automaton.proofs.Rows.{states_link}
use Rattle.pawk_ere_automaton.proofs.table.link.Goals as goal

pub returns-clause-table : goal.returns-clause-table
returns-clause-table c =
    states_link (regex_of c.args.node.now) c.args.table.now.states.items c.args.table.now.next.items c.args.place c.args.byte c.args.next c.requires.table c.requires.within (omega arith) c.requires.leads
