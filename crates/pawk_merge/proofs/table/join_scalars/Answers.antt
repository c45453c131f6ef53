use Rattle.std.proofs.Common.{◌≡◌, ◌<◌, ◌≤◌, ◌∷◌, ℕ, true, drop, length, map, get_or, set, refl, sym, ◌∙◌, ap, arith}
use Rattle.std.proofs.Math.ListN.{get_or-map}
use Rattle.std.proofs.lemmas.List.{get_or_past, length-map}
use Rattle.std.specs.Vec.Iter.{into_iter_items}
use Rattle.pawk_value.specs.Value.{Val, Uninit, shown}
use Rattle.pawk_world.specs.Worlds.{scalar}
use Rattle.pawk_store.specs.Globals.{Globals, value_at}
use Rattle.pawk_frozen.specs.Marks.{blank}
use Rattle.pawk_frozen.specs.MarkViews.{mark_view}
use Rattle.pawk_frozen.specs.declared.mark.CellMark.TheVariants as code
use Rattle.pawk_merge.specs.Joins.{takes, joined_value}
use Rattle.pawk_merge.specs.Tables.{by_place, each_below, scalar_mark, scalars_take}
use Rattle.pawk_merge.specs.Tables as spec
use Rattle.pawk_merge.proofs.SlotLemmas.{done_more, done_all, later_slot, each_below_more, each_below_fewer, each_below_false, left_within, left_at, left_after, same_globals}
use Rattle.pawk_merge.proofs.StopLemmas.{stops_too}
use Rattle.pawk_merge.proofs.table.join_scalars.Goals as goal

pub loop-mark-preserved : goal.loop-mark-preserved
loop-mark-preserved c =
    let i = c.loop-mark.slot in
    let marks = c.args.marks.items in
    let ms = map mark_view marks in
    let f = λ (n : ℕ) (v : Val). joined_value (scalar_mark ms n) v in
    let old = c.args.globals.now.scalars in
    let now = c.loop-mark.globals.scalars in
    let rest = into_iter_items c.next.new.self in
    let left : drop i marks ≡ c.in-Some.mark ∷ rest = sym c.loop-mark.invariant.left ∙ c.in-Some.ensures.steps.0 in
    let mark : scalar_mark ms i ≡ mark_view c.in-Some.mark = get_or-map mark_view marks i code.Blank ∙ ap mark_view (left_at i marks rest c.in-Some.mark left code.Blank) in
    let value : shown c.take_scalar-value.result ≡ get_or old i Uninit = c.take_scalar-value.ensures.value ∙ later_slot Uninit f i old now c.loop-mark.invariant.scalars in
    let taken : takes (scalar_mark ms i) (get_or old i Uninit) ≡ true = rw (mark, ← value) c.in_ok-join_cell.ensures.0 in
    let joined : shown c.join_cell.new.cell ≡ f i (shown c.take_scalar-value.result) = rw mark c.in_ok-join_cell.ensures.1 in
    let change = done_more Uninit f i old now (shown c.take_scalar-value.result) (shown c.join_cell.new.cell) c.loop-mark.invariant.scalars c.take_scalar-value.ensures.value joined in
    record {
      size = omega (arith, c.loop-mark.invariant.size, c.in-Some.ensures.steps.1);
      left = sym (left_after i marks rest c.in-Some.mark left);
      taken = each_below_more i (λ n. takes (scalar_mark ms n) (value_at (scalar n) c.args.globals.now)) c.loop-mark.invariant.taken taken;
      scalars = ap (λ (g : Globals). g.scalars) c.put_scalar.ensures ∙ ap (λ (g : Globals). set g.scalars i (shown c.join_cell.new.cell)) c.take_scalar-value.ensures.globals ∙ change;
      arrays = ap (λ (g : Globals). g.arrays) c.put_scalar.ensures ∙ ap (λ (g : Globals). g.arrays) c.take_scalar-value.ensures.globals ∙ c.loop-mark.invariant.arrays;
    }

pub returns : goal.returns
returns c =
    let i = c.loop-mark.slot in
    let marks = c.args.marks.items in
    let ms = map mark_view marks in
    let f = λ (n : ℕ) (v : Val). joined_value (scalar_mark ms n) v in
    let old = c.args.globals.now in
    let all : length ms ≤ i = omega (arith, length-map marks mark_view, c.loop-mark.invariant.size, c.in-None.ensures.steps.0) in
    let stays : (k : ℕ) (v : Val) → i ≤ k → f k v ≡ v = λ k v h.
    let none : scalar_mark ms k ≡ blank = get_or_past ms k blank (omega (arith, all, h)) in rw none refl in (
      each_below_fewer (length ms) i (λ n. takes (scalar_mark ms n) (value_at (scalar n) old)) all c.loop-mark.invariant.taken,
      same_globals c.loop-mark.globals (spec.join_scalars ms old) (c.loop-mark.invariant.scalars ∙ done_all Uninit f i old.scalars stays) c.loop-mark.invariant.arrays,
    )

pub returns-in_err-join_cell : goal.returns-in_err-join_cell
returns-in_err-join_cell c =
    let i = c.loop-mark.slot in
    let marks = c.args.marks.items in
    let ms = map mark_view marks in
    let f = λ (n : ℕ) (v : Val). joined_value (scalar_mark ms n) v in
    let old = c.args.globals.now.scalars in
    let now = c.loop-mark.globals.scalars in
    let rest = into_iter_items c.next.new.self in
    let left : drop i marks ≡ c.in-Some.mark ∷ rest = sym c.loop-mark.invariant.left ∙ c.in-Some.ensures.steps.0 in
    let mark : scalar_mark ms i ≡ mark_view c.in-Some.mark = get_or-map mark_view marks i code.Blank ∙ ap mark_view (left_at i marks rest c.in-Some.mark left code.Blank) in
    let value : shown c.take_scalar-value.result ≡ get_or old i Uninit = c.take_scalar-value.ensures.value ∙ later_slot Uninit f i old now c.loop-mark.invariant.scalars in
    let within : i < length ms = omega (arith, length-map marks mark_view, left_within i marks rest c.in-Some.mark left) in
    let m = mark_view c.in-Some.mark in
    let v = shown c.take_scalar-value.result in
    stops_too {T = Unit {0}} {U = Unit {0}} (takes m v) (scalars_take ms c.args.globals.now)
    (λ _. shown c.join_cell.new.cell ≡ joined_value m v)
    (λ _. c.take_scalar-value.new.self ≡ spec.join_scalars ms c.args.globals.now)
    c.in_err-join_cell.field-0.0 c.from_residual.result c.in_err-join_cell.ensures c.from_residual.ensures.1
    (λ refused. each_below_false (length ms) i (λ n. takes (scalar_mark ms n) (value_at (scalar n) c.args.globals.now)) within (rw (mark, ← value) refused))
