use Rattle.std.proofs.Common.{◌≡◌, map, sym, ◌∙◌, ap}
use Rattle.pawk_world.specs.Worlds.{scalar, element}
use Rattle.pawk_frozen.specs.Marks.{Table}
use Rattle.pawk_frozen.specs.MarkViews.{mark_view}
use Rattle.pawk_compose.proofs.TableLemmas.{arrays_from, may_follow_by_slots, scalars_from, scalars_to}
use Rattle.pawk_compose.proofs.composition.Composition.takes.Goals as goal

pub returns-then-scalars_follow : goal.returns-then-scalars_follow
returns-then-scalars_follow c =
    let t = c.args.self.now in
    let u = c.args.table.now in
    let ms = c.as_slice.result.now in
    let ns = c.scalars.result.now in
    let es = c.as_slice-then-scalars_follow.result.now in
    let fs = c.arrays.result.now in
    let slots = c.has_slots_of.ensures.0 c.if-not-has_slots_of.false in
    let first : map mark_view ms ≡ t.scalars = ap (map mark_view) c.as_slice.ensures.value ∙ ap (λ (x : Table). x.scalars) c.self.view_is in
    let arrays : es ≡ t.arrays = c.as_slice-then-scalars_follow.ensures.value ∙ ap (λ (x : Table). x.arrays) c.self.view_is in
    let follow = scalars_from ms ns t.scalars u.scalars first c.scalars.ensures (c.scalars_follow.ensures.0 c.if-scalars_follow.true) in (
      λ h. may_follow_by_slots t u slots.scalars slots.arrays follow (arrays_from es fs t.arrays u.arrays arrays c.arrays.ensures (c.arrays_follow.ensures.0 h)),
      λ h. c.arrays_follow.ensures.1 (arrays_from t.arrays u.arrays es fs (sym arrays) (sym c.arrays.ensures) (λ n lt key. h.marks (element n key))),
    )

pub returns-else-scalars_follow : goal.returns-else-scalars_follow
returns-else-scalars_follow c =
    let t = c.args.self.now in
    let u = c.args.table.now in
    let ms = c.as_slice.result.now in
    let ns = c.scalars.result.now in
    let first : map mark_view ms ≡ t.scalars = ap (map mark_view) c.as_slice.ensures.value ∙ ap (λ (x : Table). x.scalars) c.self.view_is in
    let refused = c.if-scalars_follow.false in (
      λ h. cc,
      λ h. c.scalars_follow.ensures.1 (scalars_to ms ns t.scalars u.scalars first c.scalars.ensures (λ n lt. h.marks (scalar n))),
    )
