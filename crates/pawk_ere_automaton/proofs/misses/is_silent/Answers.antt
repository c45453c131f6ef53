use Rattle.std.proofs.Common.{arith, ◌≡◌, ◌*◌, ◌<◌, Bool, List, length, true, false, get_or, ap, sym, ◌∙◌, subst}
use Rattle.std.proofs.lemmas.List.{get_or_read}
use Rattle.std.proofs.lemmas.Slice.Eq.{slice_eq-Decides}
use Rattle.pawk_ere_automaton.specs.Misses.{NoRest}
use Rattle.pawk_ere_automaton.proofs.Silent.{beq_decides}
use Rattle.pawk_ere_automaton.proofs.misses.is_silent.Goals as goal

pub returns-in-Some-true : goal.returns-in-Some-true
returns-in-Some-true c = λ e text row told.
    let marks = sym c.as_slice.ensures.value ∙ (slice_eq-Decides beq_decides _ _ _ c.eq.ensures).0 told in
    let look = c.in-Some-true.ensures.lookup in
    let inside : c.args.number < length c.deref.result.now = omega (arith, look.0) in
    let held : get_or c.args.row.now.silent.items c.args.number false ≡ true =
    ap (λ (l : List Bool). get_or l c.args.number false) (sym c.deref.ensures.value) ∙ sym (get_or_read c.deref.result.now _ _ inside look.1 false) ∙ c.in-Some-true.field-0-test in
    subst (λ m. NoRest e m text (64 * c.args.number)) marks (row c.args.number held)
