use Rattle.std.proofs.Common.{length, refl, ap, ◌∙◌, arith, vec_items}
use Rattle.std.specs.Prelude.{slice_get}
use Rattle.std.proofs.lemmas.Option.{slice_get_read, slice_get_within}
use Rattle.pawk_ere_automaton.specs.Tree.{regex_of}
use Rattle.pawk_ere_automaton.proofs.Rows.{leads_from}
use Rattle.pawk_ere_automaton.proofs.table.found_after.Goals as goal

pub link-requires-clause-leads : goal.link-requires-clause-leads
link-requires-clause-leads c = λ s h.
    let at = slice_get_read c.args.table.now.states.items (length c.args.table.now.states.items) c.args.place c.index-state.result.now refl c.requires.within c.index-state.ensures in
    leads_from (regex_of c.args.node.now) c.args.table.now.states.items c.args.table.now.states.items c.index-state.result.now s c.args.place c.args.byte c.in-Some.next c.index-state.result.now.stays c.deref-2.result.now at h refl (c.deref-2.ensures.value ∙ c.in_ok-marks.ensures) c.in-Some.ensures

pub returns-in-Some-clause-leads : goal.returns-in-Some-clause-leads
returns-in-Some-clause-leads c = λ s h.
    let at = slice_get_read c.args.table.now.states.items (length c.args.table.now.states.items) c.args.place c.index-state.result.now refl c.requires.within c.index-state.ensures in
    let l = leads_from (regex_of c.args.node.now) c.args.table.now.states.items c.args.table.now.states.items c.index-state.result.now s c.args.place c.args.byte c.in-Some.next c.index-state.result.now.stays c.deref-2.result.now at h refl (c.deref-2.ensures.value ∙ c.in_ok-marks.ensures) c.in-Some.ensures in
    (l.0, ap (λ v. slice_get (vec_items v) c.in-Some.next) c.link.ensures.same ∙ l.1, l.2)

pub link-requires-clause-small : goal.link-requires-clause-small
link-requires-clause-small c =
    let x = c.in-Some.ensures in
    let y = slice_get_within c.args.table.now.states.items c.in-Some.next x.0 x.1 in
    omega (arith, c.requires.table.few)

pub link-requires-then-put-clause-within : goal.link-requires-then-put-clause-within
link-requires-then-put-clause-within c =
    let at = slice_get_read c.args.table.now.states.items (length c.args.table.now.states.items) c.args.place c.index-state.result.now refl c.requires.within c.index-state.ensures in
    slice_get_within c.put_state.new.table.states.items c.args.place c.index-state.result.now (c.in_ok-put.ensures.keeps c.if-put.true c.args.place c.index-state.result.now at)

pub link-requires-then-put-clause-small : goal.link-requires-then-put-clause-small
link-requires-then-put-clause-small c =
    let x = c.in_ok-put.ensures.key in
    let y = slice_get_within c.put_state.new.table.states.items c.in_ok-put.put.place x.0 x.1 in
    omega (arith, c.in_ok-put.ensures.table.few)

pub link-requires-then-put-clause-leads : goal.link-requires-then-put-clause-leads
link-requires-then-put-clause-leads c = λ s h.
    let at = slice_get_read c.args.table.now.states.items (length c.args.table.now.states.items) c.args.place c.index-state.result.now refl c.requires.within c.index-state.ensures in
    leads_from (regex_of c.args.node.now) c.put_state.new.table.states.items c.put_state.new.table.states.items c.index-state.result.now s c.args.place c.args.byte c.in_ok-put.put.place c.index-state.result.now.stays c.in_ok-marks.marks.items (c.in_ok-put.ensures.keeps c.if-put.true c.args.place c.index-state.result.now at) h refl c.in_ok-marks.ensures c.in_ok-put.ensures.key

pub returns-then-put-clause-leads : goal.returns-then-put-clause-leads
returns-then-put-clause-leads c = λ s h.
    let at = slice_get_read c.args.table.now.states.items (length c.args.table.now.states.items) c.args.place c.index-state.result.now refl c.requires.within c.index-state.ensures in
    let l = leads_from (regex_of c.args.node.now) c.args.table.now.states.items c.put_state.new.table.states.items c.index-state.result.now s c.args.place c.args.byte c.in_ok-put.put.place c.index-state.result.now.stays c.in_ok-marks.marks.items at h refl c.in_ok-marks.ensures c.in_ok-put.ensures.key in
    (l.0, ap (λ v. slice_get (vec_items v) c.in_ok-put.put.place) c.link-then-put.ensures.same ∙ l.1, l.2)

pub returns-else-put-clause-leads : goal.returns-else-put-clause-leads
returns-else-put-clause-leads c = λ s h.
    let at = slice_get_read c.args.table.now.states.items (length c.args.table.now.states.items) c.args.place c.index-state.result.now refl c.requires.within c.index-state.ensures in
    leads_from (regex_of c.args.node.now) c.args.table.now.states.items c.put_state.new.table.states.items c.index-state.result.now s c.args.place c.args.byte c.in_ok-put.put.place c.index-state.result.now.stays c.in_ok-marks.marks.items at h refl c.in_ok-marks.ensures c.in_ok-put.ensures.key
