use Rattle.std.proofs.Common.{length, refl, ◌∙◌}
use Rattle.std.proofs.lemmas.Option.{slice_get_read}
use Rattle.pawk_ere_automaton.proofs.Rows.{closed_from}
use Rattle.pawk_ere_automaton.proofs.table.close.Goals as goal

pub returns-in-Some-clause-closed : goal.returns-in-Some-clause-closed
returns-in-Some-clause-closed c = λ s h.
    let at = slice_get_read c.args.table.now.states.items (length c.args.table.now.states.items) c.args.place c.index-state.result.now refl c.requires.within c.index-state.ensures in
    closed_from c.args.table.now.states.items c.args.table.now.states.items c.index-state.result.now s c.args.place c.in-Some.found c.deref-2.result.now at h
    c.deref-2.ensures.value c.in-Some.ensures

pub returns-clause-closed : goal.returns-clause-closed
returns-clause-closed c = λ s h.
    let at = slice_get_read c.args.table.now.states.items (length c.args.table.now.states.items) c.args.place c.index-state.result.now refl c.requires.within c.index-state.ensures in
    closed_from c.args.table.now.states.items c.put_state.new.table.states.items c.index-state.result.now s c.args.place c.in_ok-put_state.field-0.place c.in_ok-marks.marks.items at h
    (c.in_ok-marks.ensures.items ∙ c.deref-3.ensures.value) c.in_ok-put_state.ensures.key
