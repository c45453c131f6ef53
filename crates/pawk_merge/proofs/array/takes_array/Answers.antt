use Rattle.std.proofs.Common.{◌≡◌, true, false, sym, ◌∙◌}
use Rattle.pawk_store.specs.Globals.{array_at}
use Rattle.pawk_array.specs.Entries.{found, value_of}
use Rattle.pawk_array.specs.Keys.{text_of}
use Rattle.pawk_frozen.specs.MarkViews.{mark_view}
use Rattle.pawk_merge.specs.Joins.{takes}
use Rattle.pawk_merge.proofs.ArrayLemmas.{fewer_marks, look_taken, one_refused}
use Rattle.pawk_merge.proofs.array.takes_array.Goals as goal

pub loop-key-smaller : goal.loop-key-smaller
loop-key-smaller c =
    fewer_marks (text_of c.in-Some.key.now) (mark_view c.in-Some.mark.now) c.loop-key.pairs c.next.new.self c.in-Some.ensures.0 c.in-Some.ensures.1

pub loop-key-preserved : goal.loop-key-preserved
loop-key-preserved c =
    let es = array_at c.args.globals.now c.args.array in
    let k = text_of c.in-Some.key.now in
    let m = mark_view c.in-Some.mark.now in
    let taken : takes m (value_of (found k es)) ≡ true = rw c.text.ensures at (sym c.takes_element.ensures ∙ c.if-not-takes_element.false) in
    look_taken k m c.loop-key.pairs c.next.new.self es c.in-Some.ensures.0 c.in-Some.ensures.1 taken ∙ c.loop-key.invariant

pub returns-then-not-takes_element : goal.returns-then-not-takes_element
returns-then-not-takes_element c =
    let es = array_at c.args.globals.now c.args.array in
    let k = text_of c.in-Some.key.now in
    let m = mark_view c.in-Some.mark.now in
    let refused : takes m (value_of (found k es)) ≡ false = rw c.text.ensures at (sym c.takes_element.ensures ∙ c.if-not-takes_element.true) in
    sym (one_refused k m c.loop-key.pairs c.next.new.self es c.in-Some.ensures.0 c.in-Some.ensures.1 refused) ∙ c.loop-key.invariant
