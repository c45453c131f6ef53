use Rattle.std.proofs.Common.{inl, inr, arith}
use Rattle.pawk_ere_automaton.specs.Tree.{regex_of}
use Rattle.pawk_ere_automaton.proofs.Silent.{walk_silent}
use Rattle.pawk_ere_automaton.proofs.Walks.{start_knows, next_knows}
use Rattle.pawk_ere_automaton.proofs.notes.note_walk.Goals as goal
use Rattle.pawk_ere_automaton.proofs.notes.note_walk.Goals.{then-from-eq0, else-from-eq0}

pub loop-place-init : goal.loop-place-init
loop-place-init c =
    let k = start_knows (regex_of c.args.node.now) c.args.text.now c.args.from c.if-from-eq0.at c.args.table.now.states.items c.args.table.now.next.items c.requires.table (elim c.if-from-eq0.branch [
      | then-from-eq0 w ↦ inl (w.if-from-eq0.true, w.at-is)
      | else-from-eq0 w ↦ inr (w.if-from-eq0.false, w.at-is)
    ]) in
    record {
      after = omega arith;
      table = c.requires.table;
      misses = c.requires.misses;
      within = k.0;
      knows = k.1;
    }

pub returns-in_err-note-clause-misses : goal.returns-in_err-note-clause-misses
returns-in_err-note-clause-misses c =
    let i = c.loop-place.invariant in
    let e = regex_of c.args.node.now in
    c.note.ensures e c.args.text.now i.misses
    (λ past. walk_silent e c.args.text.now c.args.from c.args.past c.loop-place.place c.loop-place.at c.loop-place.table.states.items i.knows.0 c.index.result.now c.deref.result.now past c.requires.quiet i.knows.1 c.index.ensures c.deref.ensures.value i.knows.2)

pub returns-in_err-at-clause-misses : goal.returns-in_err-at-clause-misses
returns-in_err-at-clause-misses c =
    let i = c.loop-place.invariant in
    let e = regex_of c.args.node.now in
    c.note.ensures e c.args.text.now i.misses
    (λ past. walk_silent e c.args.text.now c.args.from c.args.past c.loop-place.place c.loop-place.at c.loop-place.table.states.items i.knows.0 c.index.result.now c.deref.result.now past c.requires.quiet i.knows.1 c.index.ensures c.deref.ensures.value i.knows.2)

pub loop-place-preserved : goal.loop-place-preserved
loop-place-preserved c =
    let i = c.loop-place.invariant in
    let e = regex_of c.args.node.now in
    let k = next_knows e c.args.text.now c.args.from c.loop-place.place c.loop-place.table.states.items c.state_after.new.table.states.items c.loop-place.at c.in_ok-at.at i.knows.0 i.after (omega (arith, c.loop-place-test.true, c.requires.end)) i.knows.1 i.knows.2 c.in_ok-at.ensures.leads in
    record {
      after = omega (arith, i.after);
      table = c.in_ok-at.ensures.table;
      misses = c.note.ensures e c.args.text.now i.misses
          (λ past. walk_silent e c.args.text.now c.args.from c.args.past c.loop-place.place c.loop-place.at c.loop-place.table.states.items i.knows.0 c.index.result.now c.deref.result.now past c.requires.quiet i.knows.1 c.index.ensures c.deref.ensures.value i.knows.2);
      within = k.0;
      knows = k.1;
    }
