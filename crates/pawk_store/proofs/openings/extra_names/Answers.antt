use Rattle.std.proofs.Common.{◌≡◌, ◌∙◌, ap, drop, sym}
use Rattle.std.specs.Prelude.{◌+◌, ◌++◌, ◌∷◌}
use Rattle.std.proofs.lemmas.List.{drop_more}
use Rattle.pawk_store.specs.Openings.{names_with, pairs_of, texts_of, with_name}
use Rattle.pawk_store.proofs.openings.extra_names.Goals as goal

pub loop-assignment-preserved : goal.loop-assignment-preserved
loop-assignment-preserved c =
    let i = c.loop-assignment.assignment-index in
    let all = c.args.assignments.now in
    let item = c.assignment-item.result in
    let names = texts_of c.args.names.now in
    let before = names ++ texts_of c.loop-assignment.extras.items in
    let rest = pairs_of (drop (i + 1) all) in
    let step = c.in_ok-push_name.ensures names c.loop-assignment.invariant.0 in
    let next : pairs_of (drop i all) ≡ (item.name.items, item.value.items) ∷ rest =
    ap pairs_of (drop_more all i item c.loop-assignment-test.true ∙ ap (λ a. a ∷ drop (i + 1) all) (sym c.assignment-item.is)) in (
      step.0,
      ap (λ ns. names_with ns rest) (step.1 ∙ ap (with_name before) c.as_slice.ensures.value)
          ∙ ap (names_with before) (sym next)
          ∙ c.loop-assignment.invariant.1,
    )
