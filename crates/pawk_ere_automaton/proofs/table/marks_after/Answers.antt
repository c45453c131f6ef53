use Rattle.pawk_ere_automaton.specs.Tree.{regex_of}
use Rattle.pawk_ere_automaton.proofs.Copies.{shifted_marks}
use Rattle.pawk_ere_automaton.proofs.table.marks_after.Goals as goal

pub returns : goal.returns
returns c =
    shifted_marks (regex_of c.args.node.now) c.args.state.now.enter c.args.byte c.args.state.now.first c.args.state.now.marks.items c.deref.result.now c.deref-2.result.now c.deref-3.result.now c.note_turns.new.out.items _ _ c.push_shifted.new.out.items
    c.deref.ensures.value c.deref-2.ensures.value c.deref-3.ensures.value c.in_ok-note_turns.ensures.out c.new-turns.ensures.items c.in_ok-marks.ensures.items c.in_ok-push_shifted.ensures.out
