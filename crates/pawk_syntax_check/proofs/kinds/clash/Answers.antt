use Rattle.std.proofs.Common.{◌≡◌, true, false, sym, ◌∙◌}
use Rattle.std.specs.List.{list_all}
use Rattle.pawk_syntax_check.specs.Found.{kinds_of, meets_marks}
use Rattle.pawk_syntax_check.proofs.Finding.{below, marks_fit, kinds_from_marks}
use Rattle.pawk_syntax_check.proofs.kinds.clash.Goals as goal

pub meets_all-requires : goal.meets_all-requires
meets_all-requires c = rw (c.as_slice.ensures.value, c.as_slice-2.ensures.value) (below _ _ c.in_ok-kinds.ensures)

pub first_clash-requires : goal.first_clash-requires
first_clash-requires c = rw c.as_slice-3.ensures.value (below _ _ c.in_ok-kinds.ensures)

pub returns-then-meets_all-clause-fit : goal.returns-then-meets_all-clause-fit
returns-then-meets_all-clause-fit c = λ _.
    let k = c.in_ok-kinds.kinds in
    let met : list_all (meets_marks k.marks.items) k.demands.list.items ≡ true =
    rw (← c.as_slice.ensures.value, ← c.as_slice-2.ensures.value) (sym c.meets_all.ensures ∙ c.if-meets_all.true) in
    (kinds_of k.demands.variables k.marks.items, kinds_from_marks _ k c.in_ok-kinds.ensures met)

pub returns-clause-unfit : goal.returns-clause-unfit
returns-clause-unfit c = λ _ fit.
    let k = c.in_ok-kinds.kinds in
    let yes = marks_fit _ k c.in_ok-kinds.ensures fit in
    let no : list_all (meets_marks k.marks.items) k.demands.list.items ≡ false =
    rw (← c.as_slice.ensures.value, ← c.as_slice-2.ensures.value) (sym c.meets_all.ensures ∙ c.if-meets_all.false) in
    cc
