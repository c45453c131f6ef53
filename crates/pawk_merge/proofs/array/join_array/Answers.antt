use Rattle.std.proofs.Common.{◌≡◌, sym, ◌∙◌}
use Rattle.pawk_array.specs.Entries.{found, value_of}
use Rattle.pawk_array.specs.Keys.{text_of}
use Rattle.pawk_frozen.specs.MarkViews.{mark_view}
use Rattle.pawk_merge.specs.Joins.{takes, joined_element}
use Rattle.pawk_merge.specs.Tables.{array_takes, with_element}
use Rattle.pawk_merge.specs.Tables as spec
use Rattle.pawk_merge.proofs.ArrayLemmas.{fewer_marks, one_taken, one_refused}
use Rattle.pawk_merge.proofs.StopLemmas.{stops_too}
use Rattle.pawk_merge.proofs.array.join_array.Goals as goal

-- the same of a short key, and of a long one, whose memory is freed
pub loop-key-smaller : goal.loop-key-smaller
loop-key-smaller c =
    fewer_marks (text_of c.in-Some.key) (mark_view c.in-Some.mark) c.loop-key.pairs c.next.new.self c.in-Some.ensures.0 c.in-Some.ensures.1

pub loop-key-smaller-in_ok-join_element : goal.loop-key-smaller-in_ok-join_element
loop-key-smaller-in_ok-join_element c =
    fewer_marks (text_of c.in-Some.key) (mark_view c.in-Some.mark) c.loop-key.pairs c.next.new.self c.in-Some.ensures.0 c.in-Some.ensures.1

pub loop-key-preserved : goal.loop-key-preserved
loop-key-preserved c =
    let k = text_of c.in-Some.key in
    let m = mark_view c.in-Some.mark in
    let es = c.loop-key.elements in
    let answer = rw c.text.ensures at c.in_ok-join_element.ensures in
    let both = one_taken k m c.loop-key.pairs c.next.new.self es c.join_element.new.elements c.order_law.ensures c.in-Some.ensures.0 c.in-Some.ensures.1 answer.0 answer.1 in
    record { taken = both.0 ∙ c.loop-key.invariant.taken; joined = both.1 ∙ c.loop-key.invariant.joined }

pub loop-key-preserved-in_ok-join_element : goal.loop-key-preserved-in_ok-join_element
loop-key-preserved-in_ok-join_element c =
    let k = text_of c.in-Some.key in
    let m = mark_view c.in-Some.mark in
    let es = c.loop-key.elements in
    let answer = rw c.text.ensures at c.in_ok-join_element.ensures in
    let both = one_taken k m c.loop-key.pairs c.next.new.self es c.join_element.new.elements c.order_law.ensures c.in-Some.ensures.0 c.in-Some.ensures.1 answer.0 answer.1 in
    record { taken = both.0 ∙ c.loop-key.invariant.taken; joined = both.1 ∙ c.loop-key.invariant.joined }

pub returns-in_err-join_element : goal.returns-in_err-join_element
returns-in_err-join_element c =
    let k = c.text.result.now in
    let m = mark_view c.in-Some.mark in
    let es = c.loop-key.elements in
    stops_too {T = Unit {0}} {U = Unit {0}} (takes m (value_of (found k es))) (array_takes c.args.marks c.args.elements.now)
    (λ _. c.join_element.new.elements ≡ with_element k (joined_element m (found k es)) es)
    (λ _. c.join_element.new.elements ≡ spec.join_array c.args.marks c.args.elements.now)
    c.in_err-join_element.field-0.0 c.from_residual.result c.in_err-join_element.ensures c.from_residual.ensures.1
    (λ refused. sym c.loop-key.invariant.taken ∙ one_refused (text_of c.in-Some.key) m c.loop-key.pairs c.next.new.self es c.in-Some.ensures.0 c.in-Some.ensures.1 (rw c.text.ensures at refused))
