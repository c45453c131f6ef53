use Rattle.std.proofs.Common.{◌<◌, length, inl, inr, arith}
use Rattle.pawk_ere_automaton.specs.Tree.{regex_of}
use Rattle.pawk_ere_automaton.proofs.Walks.{all_start, none_start, next_all, none_step, none_of_yet, some_start, some_step, some_none_step, some_dead, some_at_end}
use Rattle.pawk_ere_automaton.proofs.Silent.{some_miss}
use Rattle.pawk_ere_automaton.proofs.scan.starts_within.Goals as goal
use Rattle.pawk_ere_automaton.proofs.scan.starts_within.Goals.{then-low-eq0, else-low-eq0}

pub loop-place-init : goal.loop-place-init
loop-place-init c =
    let k = all_start (regex_of c.args.node.now) c.args.text.now c.args.low c.if-low-eq0.at c.args.table.now.states.items c.args.table.now.next.items c.requires.table (elim c.if-low-eq0.branch [
      | then-low-eq0 w ↦ inl (w.if-low-eq0.true, w.at-is)
      | else-low-eq0 w ↦ inr (w.if-low-eq0.false, w.at-is)
    ]) in
    record {
      after = omega arith;
      up_to = omega (arith, c.requires.ordered);
      table = c.requires.table;
      within = k.0;
      knows = k.1;
      none = none_start (regex_of c.args.node.now) c.args.text.now c.args.low;
    }

pub loop-place-preserved : goal.loop-place-preserved
loop-place-preserved c =
    let i = c.loop-place.invariant in
    let lt : c.loop-place.place < length c.args.text.now = omega (arith, c.requires.within, c.loop-place-test.true) in
    let k = next_all (regex_of c.args.node.now) c.args.text.now c.args.low c.loop-place.place c.loop-place.table.states.items c.state_after.new.table.states.items c.loop-place.at c.in_ok-at.at i.knows.0 i.after lt i.knows.1 i.knows.2 c.in_ok-at.ensures.leads in
    record {
      after = omega (arith, i.after);
      up_to = omega (arith, c.loop-place-test.true);
      table = c.in_ok-at.ensures.table;
      within = k.0;
      knows = k.1;
      none = none_step (regex_of c.args.node.now) c.args.text.now c.args.low c.loop-place.place c.args.low c.loop-place.table.states.items c.loop-place.table.next.items c.loop-place.at i.knows.0 c.index.result.now lt i.table i.knows.1 c.index.ensures i.knows.2 i.none c.if-index.false;
    }

pub later-init : goal.later-init
later-init c =
    let i = c.loop-place.invariant in
    let past : c.args.high < c.loop-place.place = omega (arith, c.loop-place-test.false) in
    let k = some_start (regex_of c.args.node.now) c.args.text.now c.args.low c.args.high c.loop-place.place c.loop-place.table.states.items c.close.new.table.states.items c.loop-place.at c.in_ok-at-2.at i.knows.0 past i.knows.1 i.knows.2 c.in_ok-at-2.ensures.closed in
    record {
      past = past;
      inside = omega (arith, i.up_to, c.requires.within);
      table = c.in_ok-at-2.ensures.table;
      within = k.0;
      knows = k.1;
      none = none_of_yet (regex_of c.args.node.now) c.args.text.now c.args.low c.args.high c.loop-place.place c.args.low i.none;
    }

pub returns-then-state-2-clause-none : goal.returns-then-state-2-clause-none
returns-then-state-2-clause-none c =
    let i = c.later.invariant in
    some_dead (regex_of c.args.node.now) c.args.text.now c.args.low c.args.high c.later.place c.later.table.states.items c.later.table.next.items c.later.at i.knows.0 c.index-state.result.now i.table i.knows.1 c.index-state.ensures i.knows.2 i.none c.if-state-2.true

pub later-preserved : goal.later-preserved
later-preserved c =
    let i = c.later.invariant in
    let k = some_step (regex_of c.args.node.now) c.args.text.now c.args.low c.args.high c.later.place c.later.table.states.items c.state_after-in-later.new.table.states.items c.later.at c.in_ok-at-3.at i.knows.0 c.later-test.true i.knows.1 i.knows.2 c.in_ok-at-3.ensures.leads in
    record {
      past = omega (arith, i.past);
      inside = omega (arith, c.later-test.true);
      table = c.in_ok-at-3.ensures.table;
      within = k.0;
      knows = k.1;
      none = some_none_step (regex_of c.args.node.now) c.args.text.now c.args.low c.args.high c.later.place c.later.table.states.items c.later.table.next.items c.later.at i.knows.0 c.index-state.result.now c.later-test.true i.table i.knows.1 c.index-state.ensures i.knows.2 i.none c.if-state.false;
    }

pub returns-then-has-clause-none : goal.returns-then-has-clause-none
returns-then-has-clause-none c =
    let i = c.later.invariant in
    let e = regex_of c.args.node.now in
    some_miss e c.args.text.now c.args.low c.args.high c.later.place c.later.at c.later.table.states.items i.knows.0 c.index-state.result.now c.deref.result.now i.knows.1 c.index-state.ensures c.deref.ensures.value i.knows.2 i.none
    (c.has.ensures.silent e c.args.text.now c.requires.misses c.if-has.true)

pub returns-clause-none : goal.returns-clause-none
returns-clause-none c =
    let i = c.later.invariant in
    some_at_end (regex_of c.args.node.now) c.args.text.now c.args.low c.args.high c.later.place c.later.table.states.items c.later.table.next.items c.later.at i.knows.0 c.index-2.result.now (omega (arith, c.requires.within)) i.inside c.later-test.false i.table i.knows.1 c.index-2.ensures i.knows.2 i.none c.if-index-2.false
