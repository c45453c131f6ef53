use Rattle.std.proofs.Common.{◌≡◌, ℕ, ◌+◌, Some, arith, inl, inr, slice_get, slice_index, subst, sym}
use Rattle.pawk_ere_automaton.specs.Table.{IsTable, LeadsTo}
use Rattle.pawk_ere_automaton.specs.Regex.{Regex}
use Rattle.pawk_ere_automaton.specs.declared.table.State.{State}
use Rattle.pawk_ere_automaton.specs.declared.table.StateTable.{StateTable}
use Rattle.pawk_ere_automaton.proofs.Links.{link_leads}
use Rattle.pawk_ere_automaton.specs.Tree.{regex_of}
use Rattle.pawk_ere_automaton.proofs.Walks.{all_start, none_start, next_all, found_inside, found_at_end, none_step, none_dead, none_at_all, idle_on}
use Rattle.pawk_ere_automaton.proofs.scan.first_start.Goals as goal
use Rattle.pawk_ere_automaton.proofs.scan.first_start.Goals.{then-from-eq0, else-from-eq0, then-next-ne0, else-next-ne0+in_ok-at}

-- the table after one more byte, and the state in it
abbrev IsStep : Regex → StateTable → ℕ → ℕ → StateTable → ℕ → Type 0
IsStep e old at byte new next = IsTable e new × ((s : State) → slice_get old.states.items at ≡ Some s → LeadsTo e new.states.items s byte next)

-- a step, said in the code's names for it
named : (e : Regex) (old : StateTable) (at byte : ℕ) (new told : StateTable) (next link : ℕ) → told ≡ new → link ≡ next → IsStep e old at byte new next → IsStep e old at byte told link
named e old at byte new told next link table place step = subst (λ t. IsStep e old at byte t link) (sym table) (subst (λ q. IsStep e old at byte new q) (sym place) step)

pub loop-place-init : goal.loop-place-init
loop-place-init c =
    let k = all_start (regex_of c.args.node.now) c.args.text.now c.args.from c.if-from-eq0.at c.args.table.now.states.items c.args.table.now.next.items c.requires.table (elim c.if-from-eq0.branch [
      | then-from-eq0 w ↦ inl (w.if-from-eq0.true, w.at-is)
      | else-from-eq0 w ↦ inr (w.if-from-eq0.false, w.at-is)
    ]) in
    record {
      inside = c.requires.within;
      table = c.requires.table;
      within = k.0;
      knows = k.1;
      none = none_start (regex_of c.args.node.now) c.args.text.now c.args.from;
    }

pub returns-then-state-clause-start : goal.returns-then-state-clause-start
returns-then-state-clause-start c =
    let i = c.loop-place.invariant in
    let n = i.none in
    (found_inside (regex_of c.args.node.now) c.args.text.now c.args.from c.loop-place.place c.loop-place.begin c.loop-place.table.states.items c.loop-place.table.next.items c.loop-place.at i.knows.0 c.index-state.result.now c.loop-place-test.true i.table i.knows.1 c.index-state.ensures i.knows.2 i.none c.if-state.true, n.up_to, i.inside)

pub returns-then-state-2-clause-start : goal.returns-then-state-2-clause-start
returns-then-state-2-clause-start c =
    let i = c.loop-place.invariant in
    none_dead (regex_of c.args.node.now) c.args.text.now c.args.from c.loop-place.place c.loop-place.begin c.loop-place.table.states.items c.loop-place.table.next.items c.loop-place.at i.knows.0 c.index-state.result.now i.table i.knows.1 c.index-state.ensures i.knows.2 i.none c.if-state-2.true

pub loop-place-preserved : goal.loop-place-preserved
loop-place-preserved c =
    let i = c.loop-place.invariant in
    let n = i.none in
    let e = regex_of c.args.node.now in
    let step : IsStep e c.loop-place.table c.loop-place.at (slice_index c.args.text.now c.loop-place.place) c.if-next-ne0.table c.if-next-ne0.at = elim c.if-next-ne0.branch [
      | then-next-ne0 w ↦ named e c.loop-place.table c.loop-place.at (slice_index c.args.text.now c.loop-place.place) _ _ _ _ w.table-is w.at-is (i.table, link_leads e c.loop-place.table c.loop-place.at (slice_index c.args.text.now c.loop-place.place) _ i.table i.within (omega arith) c.index.ensures w.if-next-ne0.true)
      | else-next-ne0+in_ok-at w ↦ named e c.loop-place.table c.loop-place.at (slice_index c.args.text.now c.loop-place.place) _ _ _ _ w.table-is w.at-is (w.in_ok-at.ensures.table, w.in_ok-at.ensures.leads)
    ] in
    let k = next_all e c.args.text.now c.args.from c.loop-place.place c.loop-place.table.states.items c.if-next-ne0.table.states.items c.loop-place.at c.if-next-ne0.at i.knows.0 (omega (arith, n.after, n.up_to)) c.loop-place-test.true i.knows.1 i.knows.2 step.1 in
    record {
      inside = omega arith;
      table = step.0;
      within = k.0;
      knows = k.1;
      none = none_step e c.args.text.now c.args.from c.loop-place.place c.loop-place.begin c.loop-place.table.states.items c.loop-place.table.next.items c.loop-place.at i.knows.0 c.index-state.result.now c.loop-place-test.true i.table i.knows.1 c.index-state.ensures i.knows.2 n c.if-state.false;
    }

pub loop-place-preserved-then-at-eq-IDLE : goal.loop-place-preserved-then-at-eq-IDLE
loop-place-preserved-then-at-eq-IDLE c =
    let i = c.loop-place.invariant in
    let n = i.none in
    let e = regex_of c.args.node.now in
    let step : IsStep e c.loop-place.table c.loop-place.at (slice_index c.args.text.now c.loop-place.place) c.if-next-ne0.table c.if-next-ne0.at = elim c.if-next-ne0.branch [
      | then-next-ne0 w ↦ named e c.loop-place.table c.loop-place.at (slice_index c.args.text.now c.loop-place.place) _ _ _ _ w.table-is w.at-is (i.table, link_leads e c.loop-place.table c.loop-place.at (slice_index c.args.text.now c.loop-place.place) _ i.table i.within (omega arith) c.index.ensures w.if-next-ne0.true)
      | else-next-ne0+in_ok-at w ↦ named e c.loop-place.table c.loop-place.at (slice_index c.args.text.now c.loop-place.place) _ _ _ _ w.table-is w.at-is (w.in_ok-at.ensures.table, w.in_ok-at.ensures.leads)
    ] in
    let k = next_all e c.args.text.now c.args.from c.loop-place.place c.loop-place.table.states.items c.if-next-ne0.table.states.items c.loop-place.at c.if-next-ne0.at i.knows.0 (omega (arith, n.after, n.up_to)) c.loop-place-test.true i.knows.1 i.knows.2 step.1 in
    let m = none_step e c.args.text.now c.args.from c.loop-place.place c.loop-place.begin c.loop-place.table.states.items c.loop-place.table.next.items c.loop-place.at i.knows.0 c.index-state.result.now c.loop-place-test.true i.table i.knows.1 c.index-state.ensures i.knows.2 n c.if-state.false in
    let on = idle_on e c.args.text.now c.args.from (c.loop-place.place + 1) c.idle_end-place.result c.loop-place.begin c.if-next-ne0.table.states.items c.if-next-ne0.table.next.items c.if-next-ne0.at step.0 k.1 c.if-at-eq-IDLE.true m c.idle_end-place.ensures.after (omega arith) c.idle_end-place.ensures.none in
    record {
      inside = c.idle_end-place.ensures.within;
      table = step.0;
      within = k.0;
      knows = on.0;
      none = on.1;
    }

pub returns-then-index-clause-start : goal.returns-then-index-clause-start
returns-then-index-clause-start c =
    let i = c.loop-place.invariant in
    let n = i.none in
    (found_at_end (regex_of c.args.node.now) c.args.text.now c.args.from c.loop-place.place c.loop-place.begin c.loop-place.table.states.items c.loop-place.table.next.items c.loop-place.at i.knows.0 c.index-2.result.now i.inside c.loop-place-test.false i.table i.knows.1 c.index-2.ensures i.knows.2 i.none c.if-index.true, n.up_to, i.inside)

pub returns-clause-start : goal.returns-clause-start
returns-clause-start c =
    let i = c.loop-place.invariant in
    none_at_all (regex_of c.args.node.now) c.args.text.now c.args.from c.loop-place.place c.loop-place.begin c.loop-place.table.states.items c.loop-place.table.next.items c.loop-place.at i.knows.0 c.index-2.result.now c.requires.within i.inside c.loop-place-test.false i.table i.knows.1 c.index-2.ensures i.knows.2 i.none c.if-index.false
