use Rattle.std.proofs.Common.{◌≡◌, vec_items, ap, ◌∙◌, sym}
use Rattle.std.specs.Prelude.{slice_get}
use Rattle.pawk_ere_automaton.specs.declared.table.StateTable.{StateTable}
use Rattle.pawk_ere_automaton.proofs.table.put_state.Goals as goal
use Rattle.pawk_ere_automaton.proofs.table.put_state.Goals.{then-len-most_states+in_ok-table, else-len-most_states}

pub returns-clause-key : goal.returns-clause-key
returns-clause-key c =
    let n = c.new_state.ensures in
    (c.new_state.result, c.in_ok-place.ensures.added, record { enter_is = n.enter; stays_is = n.stays; first_is = n.first; marks_are = n.marks })

pub returns-clause-keeps : goal.returns-clause-keeps
returns-clause-keeps c = λ keeps.
    let same : c.if-len-most_states.table ≡ c.args.table.now = elim c.if-len-most_states.branch [
      | then-len-most_states+in_ok-table w ↦ let x = sym w.keeps-is ∙ keeps in cc
      | else-len-most_states w ↦ w.table-is
    ] in
    λ q t h. c.in_ok-place.ensures.kept q t (ap (λ (x : StateTable). slice_get (vec_items x.states) q) same ∙ h)
