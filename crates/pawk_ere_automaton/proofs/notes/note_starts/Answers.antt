use Rattle.std.proofs.Common.{◌<◌, length, inl, inr, arith}
use Rattle.pawk_ere_automaton.specs.Tree.{regex_of}
use Rattle.pawk_ere_automaton.proofs.Silent.{comes_start, comes_step, starts_silent}
use Rattle.pawk_ere_automaton.proofs.Walks.{all_start, next_all}
use Rattle.pawk_ere_automaton.proofs.notes.note_starts.Goals as goal
use Rattle.pawk_ere_automaton.proofs.notes.note_starts.Goals.{then-low-eq0, else-low-eq0}

pub loop-place-init : goal.loop-place-init
loop-place-init c =
    let k = all_start (regex_of c.args.node.now) c.args.text.now c.args.low c.if-low-eq0.at c.args.table.now.states.items c.args.table.now.next.items c.requires.table (elim c.if-low-eq0.branch [
      | then-low-eq0 w ↦ inl (w.if-low-eq0.true, w.at-is)
      | else-low-eq0 w ↦ inr (w.if-low-eq0.false, w.at-is)
    ]) in
    record {
      after = omega arith;
      up_to = omega (arith, c.requires.ordered);
      table = c.requires.table;
      within = k.0;
      knows = k.1;
    }

pub loop-place-preserved : goal.loop-place-preserved
loop-place-preserved c =
    let i = c.loop-place.invariant in
    let lt : c.loop-place.place < length c.args.text.now = omega (arith, c.requires.within, c.loop-place-test.true) in
    let k = next_all (regex_of c.args.node.now) c.args.text.now c.args.low c.loop-place.place c.loop-place.table.states.items c.state_after.new.table.states.items c.loop-place.at c.in_ok-at.at i.knows.0 i.after lt i.knows.1 i.knows.2 c.in_ok-at.ensures.leads in
    record {
      after = omega (arith, i.after);
      up_to = omega (arith, c.loop-place-test.true);
      table = c.in_ok-at.ensures.table;
      within = k.0;
      knows = k.1;
    }

pub later-init : goal.later-init
later-init c =
    let i = c.loop-place.invariant in
    let k = comes_start (regex_of c.args.node.now) c.args.text.now c.args.low c.args.high c.loop-place.place c.loop-place.table.states.items c.close.new.table.states.items c.loop-place.at c.in_ok-at-2.at i.knows.0 i.up_to (omega (arith, c.loop-place-test.false)) i.knows.1 i.knows.2 c.in_ok-at-2.ensures.closed in
    record {
      table = c.in_ok-at-2.ensures.table;
      misses = c.requires.misses;
      within = k.0;
      comes = k.1;
    }

pub returns-in_err-note-clause-misses : goal.returns-in_err-note-clause-misses
returns-in_err-note-clause-misses c =
    let i = c.later.invariant in
    let e = regex_of c.args.node.now in
    c.note.ensures e c.args.text.now i.misses
    (λ past. starts_silent e c.args.text.now c.args.low c.args.high c.later.place c.later.at c.later.table.states.items i.comes.0 c.index.result.now c.deref.result.now c.requires.none i.comes.1 c.index.ensures c.deref.ensures.value i.comes.2)

pub returns-in_err-at-3-clause-misses : goal.returns-in_err-at-3-clause-misses
returns-in_err-at-3-clause-misses c =
    let i = c.later.invariant in
    let e = regex_of c.args.node.now in
    c.note.ensures e c.args.text.now i.misses
    (λ past. starts_silent e c.args.text.now c.args.low c.args.high c.later.place c.later.at c.later.table.states.items i.comes.0 c.index.result.now c.deref.result.now c.requires.none i.comes.1 c.index.ensures c.deref.ensures.value i.comes.2)

pub later-preserved : goal.later-preserved
later-preserved c =
    let i = c.later.invariant in
    let e = regex_of c.args.node.now in
    let k = comes_step e c.args.text.now c.args.low c.args.high c.later.place c.later.table.states.items c.state_after-in-later.new.table.states.items c.later.at c.in_ok-at-3.at i.comes.0 (omega (arith, c.later-test.true, c.requires.end)) i.comes.1 i.comes.2 c.in_ok-at-3.ensures.leads in
    record {
      table = c.in_ok-at-3.ensures.table;
      misses = c.note.ensures e c.args.text.now i.misses
          (λ past. starts_silent e c.args.text.now c.args.low c.args.high c.later.place c.later.at c.later.table.states.items i.comes.0 c.index.result.now c.deref.result.now c.requires.none i.comes.1 c.index.ensures c.deref.ensures.value i.comes.2);
      within = k.0;
      comes = k.1;
    }
