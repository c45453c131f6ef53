use Rattle.std.proofs.Common.{◌≡◌, ◌<◌, ℕ, Bool, false, length, map, ap, sym, ◌∙◌, arith}
use Rattle.std.proofs.Math.ListN.{get_or-map}
use Rattle.std.proofs.lemmas.List.{length-map}
use Rattle.pawk_world.specs.Worlds.{scalar}
use Rattle.pawk_store.specs.Globals.{value_at}
use Rattle.pawk_frozen.specs.MarkViews.{mark_view}
use Rattle.pawk_frozen.specs.declared.mark.CellMark.TheVariants as code
use Rattle.pawk_merge.specs.Joins.{takes}
use Rattle.pawk_merge.specs.Tables.{scalar_mark}
use Rattle.pawk_merge.proofs.SlotLemmas.{get_or-default, each_below_false}
use Rattle.pawk_merge.proofs.table.takes_scalars.Goals as goal

pub returns-then-not-takes_scalar : goal.returns-then-not-takes_scalar
returns-then-not-takes_scalar c =
    let i = c.loop-slot.slot in
    let marks = c.args.marks.now in
    let ms = map mark_view marks in
    let p : ℕ → Bool = λ n. takes (scalar_mark ms n) (value_at (scalar n) c.args.globals.now) in
    let within : i < length ms = omega (arith, c.loop-slot-test.true, c.loop-slot.invariant.ends, length-map marks mark_view) in
    let r = c.index-marks-slot.result in
    let inside : i < length marks = omega (arith, within, length-map marks mark_view) in
    let mark : mark_view r ≡ scalar_mark ms i =
    ap mark_view (c.index-marks-slot.is ∙ get_or-default marks i r code.Blank inside) ∙ sym (get_or-map mark_view marks i code.Blank) in
    let refused : p i ≡ false =
    ap (λ m. takes m (value_at (scalar i) c.args.globals.now)) (sym mark) ∙ sym c.takes_scalar.ensures ∙ c.if-not-takes_scalar.true in
    sym (each_below_false (length ms) i p within refused)
