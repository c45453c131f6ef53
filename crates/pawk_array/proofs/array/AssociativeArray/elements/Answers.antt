use Rattle.std.proofs.Common.{map, ◌∙◌, ap}
use Rattle.pawk_array.proofs.ElementLemmas.{element_more, element_there}
use Rattle.pawk_array.proofs.array.AssociativeArray.elements.Goals as goal
use Rattle.pawk_array.proofs.array.AssociativeArray.elements.Goals.{in-Some+in_ok-push, in_default}

pub loop-key-preserved : goal.loop-key-preserved
loop-key-preserved c =
    let es = c.args.self.now in
    let ks = c.as_slice-key-items.result.now in
    let same = ap (λ xs. map (λ x. x.text.now) xs) c.as_slice-key-items.ensures.value ∙ c.in_ok-sorted.ensures.keys in
    let rises = c.in_ok-sorted.ensures.rises in
    elim c.match-get.branch [
      | in-Some+in_ok-push w ↦ element_more es ks c.loop-key.key-index c.key-item.result c.loop-key.all.items c.match-get.all.items w.in-Some.value rises same c.loop-key-test.true c.key-item.is
          w.in-Some.ensures c.loop-key.invariant (ap (λ a. a.items) w.all-is ∙ w.in_ok-push.ensures.items)
      | in_default w ↦ absurd (element_there es ks c.loop-key.key-index c.key-item.result rises same c.loop-key-test.true c.key-item.is w.in_default.ensures)
    ]
