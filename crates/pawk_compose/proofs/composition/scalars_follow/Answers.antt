use Rattle.std.proofs.Common.{◌≡◌, ◌<◌, true, false, length, map, get_or, refl, sym, ◌∙◌, ap, arith, below_more}
use Rattle.pawk_frozen.specs.Marks.{blank}
use Rattle.pawk_frozen.specs.MarkViews.{mark_view}
use Rattle.pawk_compose.specs.Compositions.{may_follow}
use Rattle.pawk_compose.proofs.TableLemmas.{mark_at_slot}
use Rattle.pawk_compose.proofs.composition.scalars_follow.Goals as goal

pub loop-slot-preserved : goal.loop-slot-preserved
loop-slot-preserved c =
    let i = c.loop-slot.slot in
    let ms = c.args.first.now in
    let ns = c.args.second.now in
    let m = c.index-first-slot.result in
    let n = c.index-second-slot.result in
    let within : i < length ms = omega (arith, c.loop-slot-test.true, c.loop-slot.invariant.ends) in
    let inside : i < length ns = omega (arith, within, c.requires) in
    let may : may_follow (get_or (map mark_view ms) i blank) (get_or (map mark_view ns) i blank) ≡ true =
    ap (λ x. may_follow x (get_or (map mark_view ns) i blank)) (sym (mark_at_slot ms i m c.index-first-slot.is within))
    ∙ ap (may_follow (mark_view m)) (sym (mark_at_slot ns i n c.index-second-slot.is inside))
    ∙ sym c.may_follow.ensures
    ∙ c.if-not-may_follow.false in
    record {
      follow = below_more (λ k. may_follow (get_or (map mark_view ms) k blank) (get_or (map mark_view ns) k blank) ≡ true) i c.loop-slot.invariant.follow may;
      within = omega (arith, within);
      ends = c.loop-slot.invariant.ends;
    }

pub returns-then-not-may_follow : goal.returns-then-not-may_follow
returns-then-not-may_follow c =
    let i = c.loop-slot.slot in
    let ms = c.args.first.now in
    let ns = c.args.second.now in
    let m = c.index-first-slot.result in
    let n = c.index-second-slot.result in
    let within : i < length ms = omega (arith, c.loop-slot-test.true, c.loop-slot.invariant.ends) in
    let inside : i < length ns = omega (arith, within, c.requires) in
    let refused : may_follow (get_or (map mark_view ms) i blank) (get_or (map mark_view ns) i blank) ≡ false =
    ap (λ x. may_follow x (get_or (map mark_view ns) i blank)) (sym (mark_at_slot ms i m c.index-first-slot.is within))
    ∙ ap (may_follow (mark_view m)) (sym (mark_at_slot ns i n c.index-second-slot.is inside))
    ∙ sym c.may_follow.ensures
    ∙ c.if-not-may_follow.true in (
      λ h. cc,
      λ h. let may = h i within in cc,
    )

pub returns : goal.returns
returns c = (λ h n lt. c.loop-slot.invariant.follow n (omega (arith, lt, c.loop-slot.invariant.ends)), λ h. refl)
