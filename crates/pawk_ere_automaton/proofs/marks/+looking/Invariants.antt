use Rattle.pawk_ere_automaton.specs.Tree.{regex_of}
use Rattle.pawk_ere_automaton.proofs.Copies.{IsLeft}
use Rattle.pawk_ere_automaton.proofs.marks.+looking.Given as goal

abbrev pub invariant-look_copies-loop-i : goal.invariant-look_copies-loop-i
invariant-look_copies-loop-i l = IsLeft (regex_of l.a) l.count l._i l.marks l.front.rest.now l.front.ends l.front.nullable l.first l.last
