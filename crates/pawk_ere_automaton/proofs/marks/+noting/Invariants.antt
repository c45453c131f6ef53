use Rattle.pawk_ere_automaton.specs.Tree.{regex_of}
use Rattle.pawk_ere_automaton.proofs.Copies.{IsLeft, IsNoted}
use Rattle.std.proofs.Common.{false}
use Rattle.pawk_ere_automaton.proofs.marks.+noting.Given as goal

abbrev pub invariant-note_copies-loop-i : goal.invariant-note_copies-loop-i
invariant-note_copies-loop-i l = record {
  left : IsLeft (regex_of l.a) l.count l._i l.marks l.front.rest.now l.front.ends l.front.nullable l.first false;
  noted : IsNoted (regex_of l.a) l.count l._i l.first l.marks l.front.rest.now l.initial.out.items l.out.items;
}
