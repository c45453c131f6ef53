use Rattle.std.proofs.Common.{◌≡◌, refl}
use Rattle.pawk_frozen.specs.Marks.{blank}
use Rattle.pawk_frozen.specs.MarkViews.{mark_view}
use Rattle.pawk_merge.proofs.ArrayLemmas.{with_element_found}
use Rattle.pawk_merge.proofs.array.join_element.Goals as goal

pub returns-in-Blank : goal.returns-in-Blank
returns-in-Blank c =
    let k = c.args.key.now in
    let es = c.args.elements.now in
    let is : mark_view c.args.mark ≡ blank = rw c.in-Blank.is refl in
    rw is (refl, with_element_found k es c.order_law.ensures)
