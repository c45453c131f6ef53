use Rattle.std.proofs.Common.{arith}
use Rattle.pawk_ere_automaton.specs.Tree.{regex_of}
use Rattle.pawk_ere_automaton.proofs.Walks.{idle_byte}
use Rattle.pawk_ere_automaton.proofs.scan.idle_end.Goals as goal

pub returns-clause-none : goal.returns-clause-none
returns-clause-none c = λ k ge lt.
    idle_byte (regex_of c.args.node.now) c.args.text.now k c.args.table.now.states.items c.args.table.now.next.items c.index.result.now c.requires.table c.index.ensures c.if-index.false (omega arith) (omega (arith, c.row_end.ensures.within)) (omega (arith, c.type_inv.text k)) (c.row_end.ensures.idle k ge lt)
