use Rattle.std.proofs.Common.{◌≡◌, ◌<◌, length, map, get_or, refl, sym, ◌∙◌, ap, subst, arith}
use Rattle.std.proofs.lemmas.List.{get_or-map, length-map}
use Rattle.std.proofs.lemmas.Result.{err_from_is_err_and}
use Rattle.pawk_frozen.specs.Marks.{blank}
use Rattle.pawk_frozen.specs.MarkViews.{mark_view}
use Rattle.pawk_parts.specs.Writing.{Appends, MayBeLeft}
use Rattle.pawk_parts.proofs.ArrayLemmas.{one_scalar}
use Rattle.pawk_parts.proofs.LineLemmas.{kept-kept}
use Rattle.pawk_parts.proofs.SlotLemmas.{filled_until}
use Rattle.pawk_parts.proofs.RefusalLemmas.{on_damage_weaker}
use Rattle.pawk_parts.proofs.write.push_scalars.Goals as goal

pub loop-slot-preserved : goal.loop-slot-preserved
loop-slot-preserved c =
    let i = c.loop-slot.slot in
    let ms = map mark_view c.args.marks.now in
    let m = c.index-marks-slot.result in
    let old = c.args.out.now.items in
    let now = c.loop-slot.out.items in
    let new = c.push_scalar.new.out.items in
    let below : i < length c.args.marks.now = c.loop-slot-test.true in
    let within : i < length ms = omega (arith, below, length-map c.args.marks.now mark_view) in
    let at : mark_view m ≡ get_or ms i blank = ap mark_view c.index-marks-slot.is ∙ sym (get_or-map mark_view c.args.marks.now i m blank below) in
    record {
      written = λ n e. one_scalar old now new n i ms (mark_view m) within at (c.loop-slot.invariant.written n e) c.in_ok-push_scalar.ensures.written;
      kept = kept-kept old now new c.loop-slot.invariant.kept c.in_ok-push_scalar.ensures.kept;
      within = omega (arith, below);
      ends = refl;
    }

pub returns-clause-written : goal.returns-clause-written
returns-clause-written c n e =
    let ms = map mark_view c.args.marks.now in
    let all : length ms ≡ c.loop-slot.slot = omega (arith, length-map c.args.marks.now mark_view) in
    subst (λ xs. Appends c.args.out.now.items c.loop-slot.out.items n (record n { table = record n.table { scalars = xs } })) (filled_until blank c.loop-slot.slot ms all)
    (c.loop-slot.invariant.written n e)

pub returns-in_err-push_scalar-clause-damage : goal.returns-in_err-push_scalar-clause-damage
returns-in_err-push_scalar-clause-damage c =
    let p = err_from_is_err_and c.from_residual.result c.from_residual.ensures.1 in
    let i = c.loop-slot.slot in
    let ms = map mark_view c.args.marks.now in
    let m = c.index-marks-slot.result in
    let below : i < length c.args.marks.now = c.loop-slot-test.true in
    let at : get_or ms i blank ≡ mark_view m = get_or-map mark_view c.args.marks.now i m blank below ∙ ap mark_view (sym c.index-marks-slot.is) in
    rw (p.1, p.2) (on_damage_weaker c.in_err-push_scalar.field-0.0 (λ h. (i, λ left. h (subst MayBeLeft at left))) c.in_err-push_scalar.ensures.damage)
