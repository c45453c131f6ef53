use Rattle.std.proofs.Common.{◌≡◌, ◌<◌, ℕ, length, get_or, refl, ap, ◌∙◌, arith, length-set}
use Rattle.std.proofs.lemmas.List.{length-map}
use Rattle.std.specs.declared.ops.Range.{Range}
use Rattle.pawk_value.specs.declared.held.Held.{Held}
use Rattle.pawk_value.specs.declared.held.Held.TheVariants.{Uninit}
use Rattle.pawk_value.specs.Value.{lent_value}
use Rattle.pawk_builtins.specs.ValueViews.{value_in}
use Rattle.pawk_builtins.proofs.ValueLemmas.{next_lent}
use Rattle.pawk_builtins.proofs.values.Values.lend_few.Goals as goal

pub loop-held-preserved : goal.loop-held-preserved
loop-held-preserved c =
    let values = c.self.inside.values.items in
    let n = c.loop-held.count in
    let none : Held × Range ℕ = (Uninit, record { start = 0; end = 0 }) in
    let here : get_or c.deref-held-items.result.now c.loop-held.held-index none ≡ get_or values n none =
    rw (c.deref-held-items.ensures.value, c.loop-held.invariant.count) refl in
    let below : n < length values = omega (arith, ap length c.deref-held-items.ensures.value) in
    let inside : n < length c.loop-held.list = omega (arith, below, c.loop-held.invariant.room, ap length c.self.view_is, length-map values (value_in c.self.inside.bytes.items)) in
    record {
      count = omega arith;
      room = length-set c.loop-held.list n c.lend_held.result ∙ c.loop-held.invariant.room;
      lent = next_lent lent_value (value_in c.self.inside.bytes.items) c.loop-held.list c.lend_held.result values n none inside below c.loop-held.invariant.lent
          (c.lend_held.ensures ∙ ap (value_in c.deref.result.now) here ∙ ap (λ b. value_in b (get_or values n none)) c.deref.ensures.value);
    }
