use Rattle.std.proofs.Common.{slice_index_or, ◌∙◌, subst, arith}
use Rattle.std.proofs.lemmas.List.{get_or_default}
use borrow.Author.Count.{below_more}
use Rattle.pawk_array.specs.Entries.{Entries, Rise}
use Rattle.pawk_store.proofs.reading.order_of_arrays.Goals as goal

pub loop-elements-preserved : goal.loop-elements-preserved
loop-elements-preserved c =
    let arrays = c.args.arrays.now in
    let here = c.elements-item in
    below_more (λ k. (d : Entries) → Rise (slice_index_or arrays k d)) c.loop-elements.elements-index c.loop-elements.invariant
    (λ d. subst Rise (here.is ∙ get_or_default arrays c.loop-elements.elements-index here.result d (omega arith)) c.order_law.ensures)

pub returns : goal.returns
returns c = λ k d within. c.loop-elements.invariant k (omega (arith, within)) d
