use Rattle.std.proofs.Common.{◌+◌, Some, refl, inl, inr, arith}
use Rattle.pawk_ere_automaton.specs.Tree.{regex_of}
use Rattle.pawk_ere_automaton.proofs.Walks.{start_knows, next_knows, best_none_before, best_inside, best_over, over_dead, best_at_end}
use Rattle.pawk_ere_automaton.proofs.Silent.{over_miss}
use Rattle.pawk_ere_automaton.proofs.scan.longest_until.Goals as goal
use Rattle.pawk_ere_automaton.proofs.scan.longest_until.Goals.{then-from-eq0, else-from-eq0, then-state, else-state}

pub loop-place-init : goal.loop-place-init
loop-place-init c =
    let k = start_knows (regex_of c.args.node.now) c.args.text.now c.args.from c.if-from-eq0.at c.args.table.now.states.items c.args.table.now.next.items c.requires.table (elim c.if-from-eq0.branch [
      | then-from-eq0 w ↦ inl (w.if-from-eq0.true, w.at-is)
      | else-from-eq0 w ↦ inr (w.if-from-eq0.false, w.at-is)
    ]) in
    record {
      after = omega arith;
      inside = c.requires.within;
      table = c.requires.table;
      within = k.0;
      knows = k.1;
      best = best_none_before (regex_of c.args.node.now) c.args.text.now c.args.from;
    }

pub loop-place-preserved : goal.loop-place-preserved
loop-place-preserved c =
    let i = c.loop-place.invariant in
    let k = next_knows (regex_of c.args.node.now) c.args.text.now c.args.from c.loop-place.place c.loop-place.table.states.items c.state_after.new.table.states.items c.loop-place.at c.in_ok-at.at i.knows.0 i.after c.loop-place-test.true i.knows.1 i.knows.2 c.in_ok-at.ensures.leads in
    record {
      after = omega arith;
      inside = omega arith;
      table = c.in_ok-at.ensures.table;
      within = k.0;
      knows = k.1;
      best = best_inside (regex_of c.args.node.now) c.args.text.now c.args.from c.loop-place.place c.loop-place.table.states.items c.loop-place.table.next.items c.loop-place.at i.knows.0 c.index-state.result.now c.loop-place.best c.if-state.best c.loop-place-test.true i.table i.knows.1 c.index-state.ensures i.knows.2
          (elim c.if-state.branch [ then-state w ↦ inl (w.if-state.true, w.best-is) | else-state w ↦ inr (w.if-state.false, w.best-is) ]) i.best;
    }

pub returns-then-state-2-clause-longest : goal.returns-then-state-2-clause-longest
returns-then-state-2-clause-longest c =
    let i = c.loop-place.invariant in
    best_over (regex_of c.args.node.now) c.args.text.now c.args.from (c.loop-place.place + 1) c.if-state.best
    (over_dead (regex_of c.args.node.now) c.args.text.now c.args.from c.loop-place.place c.loop-place.table.states.items c.loop-place.table.next.items c.loop-place.at i.knows.0 c.index-state.result.now i.table i.knows.1 c.index-state.ensures i.knows.2 c.if-state-2.true)
    (best_inside (regex_of c.args.node.now) c.args.text.now c.args.from c.loop-place.place c.loop-place.table.states.items c.loop-place.table.next.items c.loop-place.at i.knows.0 c.index-state.result.now c.loop-place.best c.if-state.best c.loop-place-test.true i.table i.knows.1 c.index-state.ensures i.knows.2
    (elim c.if-state.branch [ then-state w ↦ inl (w.if-state.true, w.best-is) | else-state w ↦ inr (w.if-state.false, w.best-is) ]) i.best)

pub returns-then-index-clause-longest : goal.returns-then-index-clause-longest
returns-then-index-clause-longest c =
    let i = c.loop-place.invariant in
    best_at_end (regex_of c.args.node.now) c.args.text.now c.args.from c.loop-place.place c.loop-place.table.states.items c.loop-place.table.next.items c.loop-place.at i.knows.0 c.index.result.now c.loop-place.best (Some c.loop-place.place) c.requires.within i.inside c.loop-place-test.false i.table i.knows.1 c.index.ensures i.knows.2 (inl (c.if-index.true, refl)) i.best

pub returns-else-index-clause-longest : goal.returns-else-index-clause-longest
returns-else-index-clause-longest c =
    let i = c.loop-place.invariant in
    best_at_end (regex_of c.args.node.now) c.args.text.now c.args.from c.loop-place.place c.loop-place.table.states.items c.loop-place.table.next.items c.loop-place.at i.knows.0 c.index.result.now c.loop-place.best c.loop-place.best c.requires.within i.inside c.loop-place-test.false i.table i.knows.1 c.index.ensures i.knows.2 (inr (c.if-index.false, refl)) i.best

pub returns-then-has-clause-longest : goal.returns-then-has-clause-longest
returns-then-has-clause-longest c =
    let i = c.loop-place.invariant in
    let e = regex_of c.args.node.now in
    best_over e c.args.text.now c.args.from c.loop-place.place c.loop-place.best
    (over_miss e c.args.text.now c.args.from c.loop-place.place c.loop-place.at c.loop-place.table.states.items i.knows.0 c.index-state.result.now c.deref.result.now (c.has.ensures.past c.if-has.true) i.knows.1 c.index-state.ensures c.deref.ensures.value i.knows.2
    (c.has.ensures.silent e c.args.text.now c.requires.misses c.if-has.true))
    i.best
