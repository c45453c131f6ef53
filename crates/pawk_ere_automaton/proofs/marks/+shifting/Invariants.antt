use Rattle.std.proofs.Common.{◌≡◌, ◌++◌, List, Bool, false}
use Rattle.pawk_ere_automaton.specs.Tree.{regex_of}
use Rattle.pawk_ere_automaton.specs.Marks.{turns}
use Rattle.pawk_ere_automaton.specs.Regex.{copies}
use Rattle.pawk_ere_automaton.proofs.Copies.{IsLeft, IsPushed, AreTurnsLeft}
use Rattle.pawk_ere_automaton.proofs.marks.+shifting.Given as goal

abbrev pub invariant-push_copies-loop-i : goal.invariant-push_copies-loop-i
invariant-push_copies-loop-i l = record {
  left : IsLeft (regex_of l.a) l.count l._i l.source.marks.now l.front.view.rest.now l.front.view.ends l.front.view.nullable l.step.first false;
  left_turns : (more : List Bool) → l.source.turns.now ≡ turns (copies l.count (regex_of l.a)) l.source.marks.now l.step.first ++ more → AreTurnsLeft (regex_of l.a) l.count l._i l.step.first l.front.view.rest.now l.front.turns.now more;
  pushed : (more : List Bool) → l.source.turns.now ≡ turns (copies l.count (regex_of l.a)) l.source.marks.now l.step.first ++ more
      → IsPushed (regex_of l.a) l.count l._i l.initial.enter l.enter l.step.byte l.step.first l.source.marks.now l.front.view.rest.now l.initial.out.items l.out.items;
}
